-- A frame that is none of an open stream, from the frame for what was due.
use Rattle.std.proofs.Common.{
  ◌≡◌,
  ℕ,
  ◌==◌,
  inl,
  inr,
  refl,
  sym,
  ap,
  subst,
  ◌∙◌,
  Bool,
  true,
  false,
  List,
  [],
  ◌∷◌,
  ◌++◌,
  Option,
  Some,
  None,
  append_assoc,
  true≢false,
}
use Rattle.std.specs.Prelude.{if◌then◌else◌, ◌||◌, ◌&&◌, not, is_some, Result, Ok, Err, IfOk}
use Rattle.std.specs.List.{list_any}
use Rattle.std.proofs.lemmas.Bool.{eqb-true}
use Rattle.std.proofs.lemmas.List.Folds.{list_any-append}
use Rattle.sendwindows.specs.Windows.{Windows}
use Rattle.h2frame.specs.declared.frame.Frame.{Frame}
use Rattle.lists.specs.declared.field.Field.{Field}
use Rattle.hpack_codec.specs.Codec.{Writes}
use Rattle.outwriter.specs.declared.blocks.HeaderBlock.{HeaderBlock}
use Rattle.outwriter.specs.declared.due.Due.{Due}
use Rattle.outwriter.specs.declared.due.Due.TheVariants as due_kind
use Rattle.outwriter.specs.declared.outbound.Outbound.{Outbound}
use Rattle.outwriter.specs.CoreChanges.{may_write}
use Rattle.outwriter.specs.States.{
  SameEnds,
  SameOpen,
  SameOwed,
  SetsEnd,
  StandAs,
  StandButWindows,
  States,
  is_heard,
  is_reset,
  knows,
  over_on,
  open_at,
}
use Rattle.outwriter.specs.Histories.{is_stream}
use Rattle.outwriter.specs.RunState.{BeginsBlock, Ends}
use Rattle.outwriter.specs.Parts.{Mark}
use Rattle.outwriter.specs.CallState.{AreOver, Rests, IsOwn, OwnOrRests, is_due_of}
use Rattle.outwriter.specs.ToldByNow.{
  SameStanding,
  Spells,
  SpellsOf,
  KeepsTelling,
  TellsMore,
  TellsBlock,
  OwnByDue,
  block_marks,
}
use Rattle.outwriter.proofs.StateWindows.{still-heard}
use Rattle.outwriter.proofs.EndsKept.{dues-same}
use Rattle.outwriter.proofs.TellSteps.{rests-tells}

-- how the streams stand, by one step behind another
standing-then : (old mid new : Outbound) → SameStanding old mid → SameStanding mid new
    → SameStanding old new
standing-then old mid new a b id =
    ((b id).0 ∙ (a id).0, (b id).1 ∙ (a id).1, λ e. (b id).2 ((a id).2 e))

-- and where what is owed is the same
pub standing-same : (old new : Outbound) → new.states ≡ old.states → SameStanding old new
standing-same old new e id =
    (ap (λ s. knows s id) e, ap (λ s. is_reset s id) e, λ heard. ap (λ s. is_heard s id) e ∙ heard)

-- or what is kept of the open streams changes, and the windows
pub stands-but : (old new : States) → StandAs old new → StandButWindows old new
stands-but old new e =
    e
    ∙ ap (λ (w : Windows). record old { opened = new.opened; windows = w })
    (sym (ap (λ (s : States). s.windows) e))

pub standing-as : (old new : Outbound) → StandButWindows old.states new.states
    → SameStanding old new
standing-as old new e id =
    (ap (λ s. knows s id) e, ap (λ s. is_reset s id) e, λ heard. ap (λ s. is_heard s id) e ∙ heard)

pub ends-as : (old new : Outbound) → StandButWindows old.states new.states
    → SameEnds old.states new.states
ends-as old new e id = (ap (λ s. over_on s id) e, ap (λ s. is_heard s id) e)

-- and whose ends were written
ends-then : (old mid new : Outbound) → SameEnds old.states mid.states
    → SameEnds mid.states new.states → SameEnds old.states new.states
ends-then old mid new a b id = ((b id).0 ∙ (a id).0, (b id).1 ∙ (a id).1)

pub ends-same : (old new : Outbound) → new.states ≡ old.states → SameEnds old.states new.states
ends-same old new e id = (ap (λ s. over_on s id) e, ap (λ s. is_heard s id) e)

-- ---- after steps that drop what was due at most

rests-due : (old mid new : List Due) (front more : List Due) → old ≡ front ++ mid
    → mid ≡ more ++ new → old ≡ (front ++ more) ++ new
rests-due old mid new front more a b =
    a ∙ ap (λ (xs : List Due). front ++ xs) b ∙ sym (append_assoc front more new)

-- what was dropped here and then had ended before
more-over : (old mid : Outbound) (front more : List Due) → SameEnds old.states mid.states
    → SameStanding old mid → AreOver old front → AreOver mid more → AreOver old (front ++ more)
more-over old mid front more same standing a b id there e =
    by (list_any (is_due_of old.states id) front) refl
  where
    by : (d : Bool) → list_any (is_due_of old.states id) front ≡ d
        → is_some (over_on old.states id) ≡ true
    by true p = a id there p
    by false p = sym (ap is_some (same id).0)
        ∙ b id there (dues-same old.states mid.states id (standing id).1 more
        ∙ sym (list_any-append (is_due_of old.states id) front more
        ∙ ap (λ d. d || list_any (is_due_of old.states id) more) p)
        ∙ e)

pub none-over : (o : Outbound) → AreOver o []
none-over o id there e = absurd (true≢false (sym e))

pub rests-rests : (old mid new : Outbound) → Rests old mid → Rests mid new → Rests old new
rests-rests old mid new a b = record {
  due = (
    a.due.0 ++ b.due.0,
    rests-due old.due.items mid.due.items new.due.items a.due.0 b.due.0 a.due.1 b.due.1,
    more-over old mid a.due.0 b.due.0 a.over a.standing a.due.2 b.due.2,
  );
  standing = standing-then old mid new a.standing b.standing;
  over = ends-then old mid new a.over b.over;
  same_open = b.same_open ∙ a.same_open;
  begun = b.begun ∙ a.begun;
  block = b.block ∙ a.block;
  encoder = b.encoder ∙ a.encoder;
}

pub more-after : (frame : Frame) (more : List (ℕ × Mark)) (old mid new : Outbound)
    → KeepsTelling old mid → TellsMore frame more mid new → TellsMore frame more old new
more-after frame more old mid new keeps tells run marks spells =
    tells run marks (keeps run marks spells)

still-open : (old mid : Outbound) (id : ℕ) → SameEnds old.states mid.states
    → over_on mid.states id ≡ None → over_on old.states id ≡ None
still-open old mid id e none = sym (e id).0 ∙ none

-- an end that is written here was so by what came before
still-set : (old mid new : Outbound) (id : ℕ) (value : Bool) → SameEnds old.states mid.states
    → SetsEnd mid.states id value new.states → SetsEnd old.states id value new.states
still-set old mid new id value e sets = (
  λ k. sets.0 k ∙ ap (λ o. if k == id then Some value else o) (e k).0,
  λ k. sets.1 k ∙ ap (λ b. (k == id) || b) (e k).1,
)

pub rests-own : (old mid new : Outbound) (frame : Frame) → Rests old mid → IsOwn frame mid new
    → IsOwn frame old new
rests-own old mid new frame rests (known, inl (tells, over, (front, due, dropped)), kept) = (
  standing-then old mid new rests.standing known,
  inl (
    more-after frame [] old mid new (rests-tells old mid rests) tells,
    ends-then old mid new rests.over over,
    (
      rests.due.0 ++ front,
      rests-due old.due.items mid.due.items new.due.items rests.due.0 front rests.due.1 due,
      more-over old mid rests.due.0 front rests.over rests.standing rests.due.2 dropped,
    ),
  ),
  kept ∙ rests.same_open,
)
rests-own old mid new frame rests
    (known, inr (inl (id, code, front, due, tells, none, sets, dropped)), kept) = (
      standing-then old mid new rests.standing known,
      inr (inl (
        id,
        code,
        rests.due.0 ++ front,
        rests-due old.due.items mid.due.items (due_kind.Reset id code ∷ new.due.items) rests.due.0
            front rests.due.1 due,
        (tells.0, more-after frame _ old mid new (rests-tells old mid rests) tells.1),
        still-open old mid id rests.over none,
        still-set old mid new id true rests.over sets,
        more-over old mid rests.due.0 front rests.over rests.standing rests.due.2 dropped,
      )),
      kept ∙ rests.same_open,
    )
rests-own old mid new frame rests
    (known, inr (inr (id, fields, front, due, tells, none, sets, dropped)), kept) = (
      standing-then old mid new rests.standing known,
      inr (inr (
        id,
        fields,
        rests.due.0 ++ front,
        rests-due old.due.items mid.due.items
            (due_kind.Refuse id fields ∷ new.due.items) rests.due.0
            front rests.due.1 due,
        more-after frame (block_marks id fields true) old mid new (rests-tells old mid rests) tells,
        still-open old mid id rests.over none,
        still-set old mid new id false rests.over sets,
        more-over old mid rests.due.0 front rests.over rests.standing rests.due.2 dropped,
      )),
      kept ∙ rests.same_open,
    )

pub rests-either : (old mid new : Outbound) (o : Option Frame) → Rests old mid
    → OwnOrRests o mid new → OwnOrRests o old new
rests-either old mid new None rests more = rests-rests old mid new rests more
rests-either old mid new (Some frame) rests own = rests-own old mid new frame rests own

-- ---- the first that was due

pub dropped-rests : (mid popped : Outbound) (one : Due) → mid.due.items ≡ one ∷ popped.due.items
    → popped ≡ record mid { due = popped.due } → AreOver mid (one ∷ []) → Rests mid popped
dropped-rests mid popped one first is over = record {
  due = (one ∷ [], first, over);
  standing = standing-same mid popped (ap (λ (o : Outbound). o.states) is);
  over = ends-same mid popped (ap (λ (o : Outbound). o.states) is);
  same_open = ap (λ (o : Outbound). (open_at o.states)) is;
  begun = ap (λ (o : Outbound). o.begun) is;
  block = ap (λ (o : Outbound). o.block) is;
  encoder = ap (λ (o : Outbound). o.encoder) is;
}

-- nothing that tells changes
popped-tells : (mid popped : Outbound) → popped ≡ record mid { due = popped.due }
    → KeepsTelling mid popped
popped-tells mid popped is run marks spells =
    subst (λ (o : Outbound). SpellsOf run o marks) (sym is) spells

-- its frame is none of an open stream
due-own : (mid popped new : Outbound) (one : Due) (frame : Frame)
    → mid.due.items ≡ one ∷ popped.due.items → popped ≡ record mid { due = popped.due }
    → OwnByDue one frame popped new → IsOwn frame mid new
due-own mid popped new due_kind.SettingsAck frame first is ((same, known, kept), (tells, over)) =
    rests-own mid popped new frame (dropped-rests mid popped due_kind.SettingsAck first is
    (λ id there e. absurd (true≢false (sym e))))
    (known, inl (tells, over, ([], ap (λ due. due.items) (sym same), none-over popped)), kept)
due-own mid popped new (due_kind.PingAck bytes) frame first is
    ((same, known, kept), (tells, over)) =
    rests-own mid popped new frame (dropped-rests mid popped (due_kind.PingAck bytes) first is
    (λ id there e. absurd (true≢false (sym e))))
    (known, inl (tells, over, ([], ap (λ due. due.items) (sym same), none-over popped)), kept)
due-own mid popped new (due_kind.Ping bytes) frame first is ((same, known, kept), (tells, over)) =
    rests-own mid popped new frame (dropped-rests mid popped (due_kind.Ping bytes) first is
    (λ id there e. absurd (true≢false (sym e))))
    (known, inl (tells, over, ([], ap (λ due. due.items) (sym same), none-over popped)), kept)
due-own mid popped new (due_kind.Goaway last reason) frame first is
    ((same, known, kept), (tells, over)) =
    rests-own mid popped new frame (dropped-rests mid popped (due_kind.Goaway last reason) first is
    (λ id there e. absurd (true≢false (sym e))))
    (known, inl (tells, over, ([], ap (λ due. due.items) (sym same), none-over popped)), kept)
due-own mid popped new (due_kind.Reset id code) frame first is
    ((same, known, kept), (tells, (none, sets))) = (
      standing-then mid popped new
          (standing-same mid popped (ap (λ (o : Outbound). o.states) is)) known,
      inr (inl (
        id,
        code,
        [],
        first ∙ ap (λ due. due_kind.Reset id code ∷ due.items) (sym same),
        (tells.0, more-after frame _ mid popped new (popped-tells mid popped is) tells.1),
        still-open mid popped id (ends-same mid popped (ap (λ (o : Outbound). o.states) is)) none,
        still-set mid popped new id true
            (ends-same mid popped (ap (λ (o : Outbound). o.states) is)) sets,
        none-over mid,
      )),
      kept ∙ ap (λ (o : Outbound). (open_at o.states)) is,
    )
due-own mid popped new (due_kind.Refuse id fields) frame first is
    ((same, known, kept), (tells, (none, sets))) = (
      standing-then mid popped new
          (standing-same mid popped (ap (λ (o : Outbound). o.states) is)) known,
      inr (inr (
        id,
        fields,
        [],
        first ∙ ap (λ due. due_kind.Refuse id fields ∷ due.items) (sym same),
        more-after frame (block_marks id fields true) mid popped new
            (popped-tells mid popped is) tells,
        still-open mid popped id (ends-same mid popped (ap (λ (o : Outbound). o.states) is)) none,
        still-set mid popped new id false
            (ends-same mid popped (ap (λ (o : Outbound). o.states) is)) sets,
        none-over mid,
      )),
      kept ∙ ap (λ (o : Outbound). (open_at o.states)) is,
    )

pub due-first : (old mid popped new : Outbound) (one : Due) (frame : Frame) → Rests old mid
    → mid.due.items ≡ one ∷ popped.due.items
    → popped ≡ record mid { due = popped.due } → OwnByDue one frame popped new → IsOwn frame old new
due-first old mid popped new one frame rests first is own =
    rests-own old mid new frame rests (due-own mid popped new one frame first is own)

-- an end that isn't due any more, since its stream is over
pub not-ending : (o : Outbound) (at : ℕ) (may : Bool) (one : Due) → may ≡ false
    → may ≡ (is_stream at && not (is_some (over_on o.states at)))
    → ((id : ℕ) → list_any (is_due_of o.states id) (one ∷ []) ≡ ((id == at) || false))
    → AreOver o (one ∷ [])
not-ending o at may one denied is here id there e = by (id == at) refl
  where
    was : (b : Bool) → not b ≡ false → b ≡ true
    was true f = refl
    was false f = sym f

    by : (b : Bool) → (id == at) ≡ b → is_some (over_on o.states id) ≡ true
    by true p =
        let same : id ≡ at = eqb-true id at p in
        ap (λ n. is_some (over_on o.states n)) same
        ∙ was (is_some (over_on o.states at))
        (ap (λ b. b && not (is_some (over_on o.states at))) (sym (ap is_stream (sym same) ∙ there))
        ∙ sym is ∙ denied)
    by false p = absurd (true≢false (sym e ∙ here id ∙ ap (λ b. b || false) p))

-- or was reset
pub not-refused : (o : Outbound) (at : ℕ) (fields : List Field) (may : Bool) → may ≡ false
    → may ≡ may_write o at → AreOver o (due_kind.Refuse at fields ∷ [])
not-refused o at fields may denied is id there e = by (id == at) (is_reset o.states at) refl refl
  where
    over : (b r : Bool) → r ≡ false → ((true && not b) && not r) ≡ false → b ≡ true
    over true r f g = refl
    over false true f g = absurd (true≢false f)
    over false false f g = absurd (true≢false g)

    by : (b r : Bool) → (id == at) ≡ b → is_reset o.states at ≡ r
        → is_some (over_on o.states id) ≡ true
    by false r p q =
        absurd (true≢false (sym e ∙ ap (λ b. (b && not (is_reset o.states at)) || false) p))
    by true true p q =
        absurd (true≢false (sym e ∙ ap (λ b. (b && not (is_reset o.states at)) || false) p
        ∙ ap (λ b. not b || false) q))
    by true false p q =
        let same : id ≡ at = eqb-true id at p in
        ap (λ n. is_some (over_on o.states n)) same
        ∙ over (is_some (over_on o.states at)) (is_reset o.states at) q
        (ap (λ b. (b && not (is_some (over_on o.states at))) && not (is_reset o.states at))
        (sym (ap is_stream (sym same) ∙ there))
        ∙ sym is ∙ denied)

-- ---- a refusal

pub refusal-own : {E : Type 0} (id : ℕ) (fields : List Field) (bytes : List ℕ)
    (result : Result Frame E) (old mid ended new : Outbound)
    → mid ≡ record old { encoder = mid.encoder } → over_on old.states id ≡ None
    → Writes old.encoder fields bytes mid.encoder
    → ended ≡ record mid { states = ended.states } → Ends mid.states id true ended.states
    → SameOwed mid.states ended.states → SameOpen mid.states ended.states
    → IfOk result (λ frame. BeginsBlock id true bytes frame ended new)
    → IfOk result (λ frame. TellsBlock id true bytes frame mid new)
    → IfOk result (λ frame. OwnByDue (due_kind.Refuse id fields) frame old new)
refusal-own id fields bytes (Err e) old mid ended new is none writes ended_is sets same
    kept begins tells = tt
refusal-own id fields bytes (Ok frame) old mid ended new is none writes ended_is sets same
    kept begins tells =
    let states : new.states ≡ ended.states = ap (λ (o : Outbound). o.states) begins.1 in
    let owed : SameOwed mid.states new.states = subst (SameOwed mid.states) (sym states) same in
    let set : Ends mid.states id true new.states =
    subst (Ends mid.states id true) (sym states) sets in (
      (
        ap (λ (o : Outbound). o.due) begins.1 ∙ ap (λ (o : Outbound). o.due) ended_is
            ∙ ap (λ (o : Outbound). o.due) is,
        standing-then old mid new (standing-same old mid (ap (λ (o : Outbound). o.states) is)) (λ k.
            ((owed.0 k).0, (owed.0 k).2, λ e. still-heard mid.states new.states id false set k e)),
        ap open_at states ∙ kept ∙ ap (λ (o : Outbound). (open_at o.states)) is,
      ),
      (
        λ run marks spells. tells run marks fields old.encoder
            (subst (λ (b : Option HeaderBlock). Spells run b old.encoder marks)
            (sym (ap (λ (o : Outbound). o.block) is)) spells.1) writes,
        (
          none,
          still-set old mid new id false
              (ends-same old mid (ap (λ (o : Outbound). o.states) is)) set,
        ),
      ),
    )
