-- A look at an open stream: what is taken of it is written, or kept in hand.
use Rattle.std.proofs.Common.{
  ◌≡◌,
  ℕ,
  ◌<◌,
  ◌==◌,
  ◌⊎◌,
  inl,
  inr,
  refl,
  sym,
  ap,
  subst,
  ◌∙◌,
  Bool,
  true,
  false,
  List,
  [],
  ◌∷◌,
  ◌++◌,
  Option,
  Some,
  None,
  length,
  append_assoc,
  true≢false,
}
use Rattle.std.specs.Prelude.{IfNone, IfSome, Result, Ok, map, get_or, if◌then◌else◌}
use Rattle.std.proofs.lemmas.Bool.{eqb-true, eq-eqb}
use Rattle.std.proofs.lemmas.Grind.{flat_map-append}
use Rattle.std.proofs.lemmas.List.{map-append}
use Rattle.account.specs.declared.call.OutItem.{OutItem}
use Rattle.account.specs.declared.call.OutItem.TheVariants as item
use Rattle.h2frame.specs.declared.frame.Frame.{Frame}
use Rattle.lists.specs.declared.field.Field.{Field}
use Rattle.hpack_codec.specs.Codec.{Encoding, Writes}
use Rattle.outwriter.specs.declared.sending.Sending.{Sending}
use Rattle.outwriter.specs.declared.outbound.Outbound.{Outbound}
use Rattle.outwriter.specs.declared.stream.OpenStream.{OpenStream}
use Rattle.outwriter.specs.declared.stream.SenderItem.{SenderItem}
use Rattle.outwriter.specs.declared.stream.SenderItem.TheVariants as polled
use Rattle.outwriter.specs.declared.stream.NextData.{NextData}
use Rattle.outwriter.specs.declared.stream.NextData.TheVariants as looked
use Rattle.outwriter.specs.Calls.{is_served, TellFronts}
use Rattle.outwriter.specs.Frames.{IsSound}
use Rattle.outwriter.specs.Cores.{calls}
use Rattle.outwriter.specs.States.{SameOwed, is_heard, knows, over_on, open_at}
use Rattle.outwriter.specs.OpenStreams.{
  Closes,
  HandIs,
  OpenStreams,
  Removes,
  Shown,
  kept,
  shown,
  shows,
  with_hand,
}
use Rattle.outwriter.specs.RunState.{
  Ends,
  IsBetween,
  MirrorsOf,
  Progress,
  SameButOpen,
  SameOwn,
  Stays,
}
use Rattle.outwriter.specs.Parts.{
  Mark,
  Byte,
  Fields,
  End,
  on_stream,
  spelled,
  marks_of_item,
  IsFrontOf,
  IsPart,
}
use Rattle.outwriter.specs.NextOn.{GetsOne}
use Rattle.outwriter.specs.StreamLooks.{one_more, TakesAt, aheads, frame_in, HoldsOn, Picks}
use Rattle.outwriter.specs.Polls.{block_item, GotNone}
use Rattle.outwriter.specs.CallState.{Heeds, bytes_marks, Serves}
use Rattle.outwriter.specs.Steps.{Step, Written}
use Rattle.outwriter.specs.ToldByNow.{SpellsOf, SameStanding, TellsMore, TellsBlock, block_marks}
use Rattle.outwriter.proofs.DataSteps.{TellsData}
use Rattle.outwriter.proofs.ServeSteps.{append-nil, none-shown}
use Rattle.outwriter.proofs.EndsKept.{KeepsEnds, heeds-kept, same-ends, block-ends, ends-heard}
use Rattle.outwriter.proofs.TellStepsOwn.{ends-as, standing-as, stands-but}
use Rattle.outwriter.proofs.Others.{later-none, later-written}
use Rattle.outwriter.proofs.ServeStepsOpen.{Grows, grows-none, grows-one, goes-on, ends}
use Rattle.outwriter.proofs.ServeStepsOwn.{serves-but-open}
use Rattle.outwriter.proofs.ServeStepsCore.{own-then}

-- ---- what is told is a front still

front-more : (part all more : List Mark) → IsFrontOf part all → IsFrontOf part (all ++ more)
front-more part all more (inl (rest, e)) =
    inl (rest ++ more, ap (λ (l : List Mark). l ++ more) e ∙ append_assoc part rest more)
front-more part all more (inr (front, code, b, e)) = inr (
  front,
  code,
  (b.0 ++ more, ap (λ (l : List Mark). l ++ more) b.1 ∙ append_assoc front b.0 more),
  e,
)

pub fronts-grow : (run : List Step) (place : ℕ) (news : List OutItem)
    (calls now : List (ℕ × List OutItem))
    → Grows place news calls now → TellFronts run calls → TellFronts run now
fronts-grow run place news calls now g all k d lt = by (k == place) refl
  where
    Fronts : ℕ × List OutItem → Type 0
    Fronts call =
        is_served call.0 run ≡ true
        → (part : List Mark) × IsPart call.0 run part × IsFrontOf part (spelled call.1)

    within : k < length calls
    within = subst (λ n. k < n) g.same_length lt

    more : Fronts (get_or calls k d) → Fronts ((get_or calls k d).0, (get_or calls k d).1 ++ news)
    more f is = let was = f is in (
      was.0,
      was.1,
      subst (λ (l : List Mark). IsFrontOf was.0 l)
          (sym (flat_map-append marks_of_item (get_or calls k d).1 news))
          (front-more was.0 (spelled (get_or calls k d).1) (spelled news) was.2),
    )

    by : (b : Bool) → (k == place) ≡ b → Fronts (get_or now k d)
    by true p =
        subst Fronts (sym (ap (λ n. get_or now n d) (eqb-true k place p)
        ∙ g.here d (subst (λ n. n < length calls) (eqb-true k place p) within)
        ∙ ap (λ n. ((get_or calls n d).0, (get_or calls n d).1 ++ news))
        (sym (eqb-true k place p)))) (more (all k d within))
    by false p =
        subst Fronts (sym (g.elsewhere k d (λ e. true≢false (sym (eq-eqb k place e) ∙ p))))
        (all k d within)

-- ---- what was taken

-- the bytes of a message that was found
abbrev bytes_of : Result SenderItem (Unit {0}) → List ℕ
bytes_of (Ok (polled.Message bytes)) = bytes
bytes_of _ = []

-- this was found
abbrev Found : Shown → List (ℕ × List OutItem) → List (ℕ × List OutItem) → List (List OutItem)
    → Option Encoding → Option Encoding → SenderItem → Type 0
Found view old new ahead from to found =
    TakesAt {E = Unit {0}} view old new ahead from to (Ok found)

pub takes-message : (view : Shown) (old new : List (ℕ × List OutItem)) (ahead : List (List OutItem))
    (from to : Option Encoding) (bytes : List ℕ)
    → Found view old new ahead from to (polled.Message bytes)
    → (place : ℕ) × (was : Option (List ℕ)) × (news : List OutItem) × (view ≡ Some (place, was))
    × Grows place news old new
    × (bytes_marks was ++ spelled news ≡ map Byte bytes) × (to ≡ from)
takes-message None old new ahead from to bytes t =
    absurd (message-nothing (Ok (polled.Message bytes)) refl t.0)
  where
    message-nothing : (r : Result SenderItem (Unit {0})) → r ≡ Ok (polled.Message bytes)
        → r ≡ Ok polled.Nothing → ⊥
    message-nothing r f e = cc
takes-message (Some (place, Some bs)) old new ahead from to bytes t = (
  place,
  Some bs,
  [],
  refl,
  grows-none place old new t.1,
  append-nil (map Byte bs) ∙ ap (map Byte) (sym (ap (bytes_of) t.0)),
  t.2,
)
takes-message (Some (place, None)) old new ahead from to bytes t = (
  place,
  None,
  item.Message bytes ∷ [],
  refl,
  grows-one place (item.Message bytes) old new t.0,
  append-nil (map Byte bytes),
  t.1,
)

pub takes-block : (view : Shown) (old new : List (ℕ × List OutItem)) (ahead : List (List OutItem))
    (from to : Option Encoding) (bytes : List ℕ) (ends_it : Bool)
    → Found view old new ahead from to (polled.Block bytes ends_it)
    → (place : ℕ) × (fields : List Field) × (view ≡ Some (place, None))
    × Grows place (block_item ends_it fields ∷ []) old new × Writes from fields bytes to
takes-block None old new ahead from to bytes ends_it t =
    absurd (block-nothing (Ok (polled.Block bytes ends_it)) refl t.0)
  where
    block-nothing : (r : Result SenderItem (Unit {0})) → r ≡ Ok (polled.Block bytes ends_it)
        → r ≡ Ok polled.Nothing → ⊥
    block-nothing r f e = cc
takes-block (Some (place, Some bs)) old new ahead from to bytes ends_it t =
    absurd (block-message bs (Ok (polled.Block bytes ends_it)) refl t.0)
  where
    block-message : (bs : List ℕ) (r : Result SenderItem (Unit {0}))
        → r ≡ Ok (polled.Block bytes ends_it) → r ≡ Ok (polled.Message bs) → ⊥
    block-message bs r f e = cc
takes-block (Some (place, None)) old new ahead from to bytes ends_it t =
    (place, t.0, refl, grows-one place (block_item ends_it t.0) old new t.1, t.2)

-- nothing was got, or that the call was left
abbrev LeftAt : Shown → List (ℕ × List OutItem) → List (ℕ × List OutItem) → Type 0
LeftAt view old new =
    (new ≡ old) ⊎ ((place : ℕ) × (view ≡ Some (place, None)) × (new ≡ one_more place item.Left old))

left-at : (place : ℕ) (old new : List (ℕ × List OutItem))
    → GotNone old (one_more place item.Left old) new → LeftAt (Some (place, None)) old new
left-at place old new (inl e) = inl e
left-at place old new (inr e) = inr (place, refl, e)

pub takes-nothing : (view : Shown) (old new : List (ℕ × List OutItem)) (ahead : List (List OutItem))
    (from to : Option Encoding)
    → Found view old new ahead from to polled.Nothing
    → LeftAt view old new × (to ≡ from) × (with_hand None view ≡ view)
    × ((s : ℕ × Option (List ℕ)) → view ≡ Some s → get_or ahead s.0 [] ≡ [])
takes-nothing None old new ahead from to t = (inl t.1, t.2, refl, λ s e. absurd (none-is s e))
  where
    none-is : (s : ℕ × Option (List ℕ)) → None ≡ Some s → ⊥
    none-is s e = cc
takes-nothing (Some (place, Some bs)) old new ahead from to t =
    absurd (nothing-message bs (Ok polled.Nothing) refl t.0)
  where
    nothing-message : (bs : List ℕ) (r : Result SenderItem (Unit {0})) → r ≡ Ok polled.Nothing
        → r ≡ Ok (polled.Message bs) → ⊥
    nothing-message bs r f e = cc
takes-nothing (Some (place, None)) old new ahead from to t =
    (left-at place old new t.0, t.2, refl, λ s e. ap (λ n. get_or ahead n []) (sym (at s e)) ∙ t.1)
  where
    at : (s : ℕ × Option (List ℕ)) → Some (place, None) ≡ Some s → place ≡ s.0
    at s e = ap (λ (x : Shown). place_of s x) e
      where
        place_of : ℕ × Option (List ℕ) → Shown → ℕ
        place_of d None = d.0
        place_of d (Some x) = x.0

-- whatever was taken, even without memory
pub one-fronts : (old new : List (ℕ × List OutItem)) → GetsOne old new → (run : List Step)
    → TellFronts run old → TellFronts run new
one-fronts old new (inl e) run all = subst (TellFronts run) (sym e) all
one-fronts old new (inr (place, one, e)) run all =
    fronts-grow run place (one ∷ []) old new (grows-one place one old new e) all

-- ---- what is in hand then

pub hand-then : (id place : ℕ) (was hand : Option (List ℕ)) (streams left : OpenStreams)
    → shows streams id ≡ Some (place, was) → HandIs id hand streams left
    → (k : ℕ) → shows left k ≡ (if k == id then Some (place, hand) else shows streams k)
hand-then id place was hand streams left view is k = is k ∙ by (k == id) refl
  where
    by : (b : Bool) → (k == id) ≡ b
        → (if b then with_hand hand (shows streams k) else shows streams k)
        ≡ (if b then Some (place, hand) else shows streams k)
    by true p =
        ap (with_hand hand)
        (subst (λ n. shows streams n ≡ Some (place, was)) (sym (eqb-true k id p)) view)
    by false p = refl

-- where nothing is in hand anyway
pub hand-rests : (id place : ℕ) (streams : OpenStreams) → shows streams id ≡ Some (place, None)
    → HandIs id None streams streams
hand-rests id place streams view k = by (k == id) refl
  where
    by : (b : Bool) → (k == id) ≡ b
        → shows streams k ≡ (if b then with_hand None (shows streams k) else shows streams k)
    by true p =
        let there : shows streams k ≡ Some (place, None) =
        subst (λ n. shows streams n ≡ Some (place, None)) (sym (eqb-true k id p)) view in
        there ∙ sym (ap (with_hand None) there)
    by false p = refl

kept-marks : (rest : List ℕ) → bytes_marks (kept rest) ≡ map Byte rest
kept-marks [] = refl
kept-marks (byte ∷ bytes) = refl

-- ---- the frames

same-outbound : (old mid : Outbound) → mid ≡ record old { encoder = mid.encoder }
    → mid.encoder ≡ old.encoder → mid ≡ old
same-outbound old mid e f = e ∙ ap (λ (x : Option Encoding). record old { encoder = x }) f

data-serves : (run : List Step) (o after : Outbound) (streams left : OpenStreams)
    (calls now : List (ℕ × List OutItem))
    (marks : List (ℕ × Mark)) (id place : ℕ) (was : Option (List ℕ)) (news : List OutItem)
    (bytes front rest : List ℕ) (frame : Frame)
    → shows streams id ≡ Some (place, was) → Grows place news calls now
    → (bytes_marks was ++ spelled news) ≡ map Byte bytes
    → bytes ≡ front ++ rest → HandIs id (kept rest) streams left
    → TellsMore frame (on_stream id (map Byte front)) o after
    → after
    ≡ record o
    { states = record o.states { opened = after.states.opened; windows = after.states.windows } }
    → Serves run o streams calls marks
    → Serves (Written frame ∷ run) after left now (marks ++ on_stream id (map Byte front))
data-serves run o after streams left calls now marks id place was news bytes front rest frame view g
    bal cut hands tells is s =
    goes-on run (Written frame ∷ run) o after streams left calls now marks id place was (kept rest)
    (map Byte front) news (λ k. refl) (λ k. refl) (later-written run frame)
    (tells run marks s.spells)
    (ap (λ (x : Outbound). x.due.items) (sym is)) (λ k. ap (λ (x : Outbound). knows x.states k) is)
    (ends-as o after (ap (λ (x : Outbound). x.states) is))
    view (hand-then id place was (kept rest) streams left view hands) g
    (bal ∙ ap (map Byte) cut ∙ map-append Byte front rest
    ∙ ap (λ (l : List Mark). map Byte front ++ l) (sym (kept-marks rest))) s

-- all of it is in hand, and nothing is told
kept-serves : (run : List Step) (o : Outbound) (streams left : OpenStreams)
    (calls now : List (ℕ × List OutItem))
    (marks : List (ℕ × Mark)) (id place : ℕ) (was hand : Option (List ℕ)) (news : List OutItem)
    → shows streams id ≡ Some (place, was) → Grows place news calls now
    → (bytes_marks was ++ spelled news) ≡ bytes_marks hand
    → HandIs id hand streams left → Serves run o streams calls marks
    → Serves run o left now (marks ++ on_stream id [])
kept-serves run o streams left calls now marks id place was hand news view g bal hands s =
    goes-on run run o o streams left calls now marks id place was hand [] news (λ k. refl)
    (λ k. refl) (later-none run)
    (subst (λ (l : List (ℕ × Mark)). SpellsOf run o l) (sym (append-nil marks)) s.spells)
    refl (λ k. refl) (λ k. (refl, refl)) view
    (hand-then id place was hand streams left view hands) g bal s

-- a call that was left tells nothing more
left-serves : (run : List Step) (o : Outbound) (streams : OpenStreams)
    (calls now : List (ℕ × List OutItem))
    (marks : List (ℕ × Mark)) (id place : ℕ)
    → shows streams id ≡ Some (place, None) → now ≡ one_more place item.Left calls
    → Serves run o streams calls marks → Serves run o streams now (marks ++ on_stream id [])
left-serves run o streams calls now marks id place view is s =
    kept-serves run o streams streams calls now marks id place None None (item.Left ∷ []) view
    (grows-one place item.Left calls now is) refl (hand-rests id place streams view) s

-- what is shown of a stream that isn't open any more
shows-removed : (id : ℕ) (middle left : OpenStreams) → Closes id middle left → (k : ℕ)
    → shows left k ≡ (if k == id then None else shows middle k)
shows-removed id middle left is k = ap shown (is k) ∙ by (k == id)
  where
    by : (b : Bool) → shown (if b then None else middle k) ≡ (if b then None else shows middle k)
    by true = refl
    by false = refl

head-serves : (run : List Step) (o after : Outbound) (streams left : OpenStreams)
    (calls now : List (ℕ × List OutItem))
    (marks : List (ℕ × Mark)) (id place : ℕ) (fields : List Field) (ends_it : Bool) (frame : Frame)
    → shows streams id ≡ Some (place, None) → Grows place (block_item ends_it fields ∷ []) calls now
    → Removes id ends_it streams left
    → SpellsOf (Written frame ∷ run) after (marks ++ block_marks id fields ends_it)
    → o.due.items ≡ after.due.items → ((k : ℕ) → knows after.states k ≡ knows o.states k)
    → Ends o.states id ends_it after.states
    → Serves run o streams calls marks
    → Serves (Written frame ∷ run) after left now (marks ++ block_marks id fields ends_it)
head-serves run o after streams left calls now marks id place fields true frame view g removes
    spells due known over s =
    ends run (Written frame ∷ run) o after streams left calls now marks id place None
    (Fields fields ∷ End ∷ []) (block_item true fields ∷ []) (λ k. refl) (λ k. refl)
    (later-written run frame)
    spells due known over view
    (shows-removed id streams left removes) g refl s
head-serves run o after streams left calls now marks id place fields false frame view g removes
    spells due known over s =
    goes-on run (Written frame ∷ run) o after streams left calls now marks id place None None
    (Fields fields ∷ []) (block_item false fields ∷ []) (λ k. refl) (λ k. refl)
    (later-written run frame)
    spells due known (λ k. (ap (λ s. over_on s k) over, ap (λ s. is_heard s k) over)) view
    (λ k.
    removes k
    ∙ hand-then id place None None streams streams view
    (hand-rests id place streams view) k) g refl s

-- ---- no stream opens

hand-closed : (id : ℕ) (hand : Option (List ℕ)) (streams left : OpenStreams)
    → HandIs id hand streams left
    → (k : ℕ) → streams k ≡ None → left k ≡ None
hand-closed id hand streams left is k none = none-shown (left k) (is k ∙ by (k == id))
  where
    by : (b : Bool) → (if b then with_hand hand (shows streams k) else shows streams k) ≡ None
    by true = ap (λ (o : Option OpenStream). with_hand hand (shown o)) none
    by false = ap shown none

removes-closed : (id : ℕ) (ends_it : Bool) (streams left : OpenStreams)
    → Removes id ends_it streams left
    → (k : ℕ) → streams k ≡ None → left k ≡ None
removes-closed id true streams left is k none = is k ∙ by (k == id)
  where
    by : (b : Bool) → (if b then None else streams k) ≡ None
    by true = refl
    by false = none
removes-closed id false streams left same k none = none-shown (left k) (same k ∙ ap shown none)

-- ---- what follows from the run

-- where the encoder wrote at most
pub progress-none : (old mid : Outbound) → mid ≡ record old { encoder = mid.encoder }
    → IsBetween old → Stays old mid × IsBetween mid
progress-none old mid e between = (
  λ run m. subst (MirrorsOf run) (sym e) (mirrors-encoder run old mid.encoder m),
  subst IsBetween (sym e)
      (record { begun = between.begun; going = between.going; no_block = between.no_block }),
)
  where
    mirrors-encoder : (run : List Step) (o : Outbound) (encoder : Option Encoding) → MirrorsOf run o
        → MirrorsOf run (record o { encoder = encoder })
    mirrors-encoder run o encoder m = m

progress-after : (o : Option Frame) (old mid new : Outbound) → Stays old mid → Progress o mid new
    → Progress o old new
progress-after (Some frame) old mid new stays progress = λ run m. progress run (stays run m)
progress-after None old mid new stays progress = (λ run m. progress.0 run (stays run m), progress.1)

own-after : (o : Option Frame) (old mid new : Outbound) → SameOwn old mid
    → IfNone o (SameOwn mid new) → IfNone o (SameOwn old new)
own-after (Some frame) old mid new a b = tt
own-after None old mid new a b = own-then old mid new a b

-- ---- a core

module _ {L In Out Shut : Type 0} where
  -- Resets and Refuses are heeded still
  heeds-look : (run : List Step) (old new : Sending L In Out Shut)
      → KeepsEnds old.outbound new.outbound → SameStanding old.outbound new.outbound
      → ((k : ℕ) → (open_at old.outbound.states) k ≡ None → (open_at new.outbound.states) k ≡ None)
      → Heeds run old.outbound (open_at old.outbound.states)
      → Heeds run new.outbound (open_at new.outbound.states)
  heeds-look run old new keeps standing closed heeds =
      heeds-kept run old.outbound new.outbound (open_at old.outbound.states)
      (open_at new.outbound.states) keeps standing closed heeds

  heeds-still : (run : List Step) (old new : Sending L In Out Shut)
      → SameButOpen old.outbound new.outbound
      → ((k : ℕ) → (open_at old.outbound.states) k ≡ None → (open_at new.outbound.states) k ≡ None)
      → Heeds run old.outbound (open_at old.outbound.states)
      → Heeds run new.outbound (open_at new.outbound.states)
  heeds-still run old new same closed heeds =
      let stands =
      stands-but old.outbound.states new.outbound.states (ap (λ (x : Outbound). x.states) same) in
      heeds-look run old new
      (same-ends old.outbound new.outbound (ap (λ (x : Outbound). x.due) same) stands)
      (standing-as old.outbound new.outbound stands) closed heeds

  -- what was found, in hand or at the sender, and the encoder after it
  pub record Took (got ahead : Out → List OutItem) (old mid : Sending L In Out Shut) (id : ℕ)
      (found : SenderItem) : Type 0 where
    pub takes :
        Found (shows (open_at old.outbound.states) id) (calls got old.senders.items)
        (calls got mid.senders.items) (aheads ahead mid.senders.items)
        old.outbound.encoder mid.outbound.encoder found
    pub outbound : mid.outbound ≡ record old.outbound { encoder = mid.outbound.encoder }

  -- what a look at a message found
  pub look-picks : (got : Out → List OutItem) (old mid new : Sending L In Out Shut) (l : NextData)
      → Stays old.outbound mid.outbound → SameOwn old.outbound mid.outbound
      → IfSome (frame_in l) IsSound → Progress (frame_in l) mid.outbound new.outbound
      → IfNone (frame_in l) (SameOwn mid.outbound new.outbound)
      → HoldsOn got (frame_in l) old new → Picks got (frame_in l) old new
  look-picks got old mid new l stays same sound progress own holds = (
    sound,
    progress-after (frame_in l) old.outbound mid.outbound new.outbound stays progress,
    own-after (frame_in l) old.outbound mid.outbound new.outbound same own,
    holds,
  )

  pub look-nothing : (got ahead : Out → List OutItem) (old mid : Sending L In Out Shut)
      (id : ℕ) (result : SenderItem)
      → Took got ahead old mid id result → result ≡ polled.Nothing → HoldsOn got None old mid
  look-nothing got ahead old mid id result took is run (marks, s, heeds) =
      let t =
      subst (λ (p : SenderItem).
      Found (shows (open_at old.outbound.states) id) (calls got old.senders.items)
      (calls got mid.senders.items) (aheads ahead mid.senders.items) old.outbound.encoder
      mid.outbound.encoder p) is took.takes in
      let found =
      takes-nothing (shows (open_at old.outbound.states) id) (calls got old.senders.items)
      (calls got mid.senders.items) (aheads ahead mid.senders.items) old.outbound.encoder
      mid.outbound.encoder t in
      let same = same-outbound old.outbound mid.outbound took.outbound found.1 in
      let all = told found.0 in (
        all.0,
        subst (λ (x : Outbound).
            Serves run x (open_at x.states) (calls got mid.senders.items)
            all.0) (sym same) all.1,
        subst (λ (x : Outbound). Heeds run x (open_at x.states)) (sym same) heeds,
      )
    where
      told :
          LeftAt (shows (open_at old.outbound.states) id) (calls got old.senders.items)
          (calls got mid.senders.items)
          → (after : List (ℕ × Mark))
          × Serves run old.outbound (open_at old.outbound.states)
          (calls got mid.senders.items) after
      told (inl none) = (
        marks,
        subst (λ (l : List (ℕ × List OutItem)).
            Serves run old.outbound (open_at old.outbound.states) l marks) (sym none) s,
      )
      told (inr (place, view, left)) = (
        marks ++ on_stream id [],
        left-serves run old.outbound (open_at old.outbound.states) (calls got old.senders.items)
            (calls got mid.senders.items) marks id place view left s,
      )

  -- a message was found
  module _ (got ahead : Out → List OutItem) (old mid new : Sending L In Out Shut)
      (id : ℕ) (bytes : List ℕ)
      (took_it : Took got ahead old mid id (polled.Message bytes))
      (senders : new.senders ≡ mid.senders) where
    found : (place : ℕ) × (was : Option (List ℕ)) × (news : List OutItem)
        × (shows (open_at old.outbound.states) id ≡ Some (place, was))
        × Grows place news (calls got old.senders.items) (calls got mid.senders.items)
        × (bytes_marks was ++ spelled news ≡ map Byte bytes)
        × (mid.outbound.encoder ≡ old.outbound.encoder)
    found =
        takes-message (shows (open_at old.outbound.states) id) (calls got old.senders.items)
        (calls got mid.senders.items) (aheads ahead mid.senders.items) old.outbound.encoder
        mid.outbound.encoder bytes took_it.takes

    same : mid.outbound ≡ old.outbound
    same = same-outbound old.outbound mid.outbound took_it.outbound found.6

    -- nothing is told of it
    kept-holds : (hand : Option (List ℕ)) → map Byte bytes ≡ bytes_marks hand
        → HandIs id hand (open_at old.outbound.states) (open_at new.outbound.states)
        → SameButOpen old.outbound new.outbound → HoldsOn got None old new
    kept-holds hand marks_are hands but run (marks, s, heeds) = (
      marks ++ on_stream id [],
      serves-but-open run old.outbound new.outbound (open_at new.outbound.states)
          (calls got new.senders.items) (marks ++ on_stream id []) but
          (subst (λ senders.
          Serves run old.outbound (open_at new.outbound.states) (calls got senders.items)
          (marks ++ on_stream id [])) (sym senders)
          (kept-serves run old.outbound (open_at old.outbound.states) (open_at new.outbound.states)
          (calls got old.senders.items) (calls got mid.senders.items) marks id
          found.0 found.1 hand found.2 found.3 found.4 (found.5 ∙ marks_are) hands s)),
      heeds-still run old new but (hand-closed id hand (open_at old.outbound.states)
          (open_at new.outbound.states) hands) heeds,
    )

    pub look-data : (l : NextData) → TellsData id bytes l mid new → HoldsOn got (frame_in l) old new
    look-data (looked.Frame frame) from = λ run h.
        let tells =
        subst (λ (x : Outbound).
        TellsData id bytes (looked.Frame frame) (record mid { outbound = x }) new) same from in (
          h.0 ++ on_stream id (map Byte tells.0),
          subst (λ senders.
              Serves (Written frame ∷ run) new.outbound (open_at new.outbound.states)
              (calls got senders.items) (h.0 ++ on_stream id (map Byte tells.0))) (sym senders)
              (data-serves run old.outbound new.outbound (open_at old.outbound.states)
              (open_at new.outbound.states)
              (calls got old.senders.items) (calls got mid.senders.items) h.0 id found.0 found.1
              found.2 bytes tells.0 tells.1 frame found.3 found.4 found.5 tells.2 tells.3
              tells.4 tells.5 h.1),
          heeds-look run old new (same-ends old.outbound new.outbound
              (ap (λ (x : Outbound). x.due) tells.5) (ap (λ (x : Outbound). x.states) tells.5))
              (standing-as old.outbound new.outbound (ap (λ (x : Outbound). x.states) tells.5))
              (hand-closed id (kept tells.1) (open_at old.outbound.states)
              (open_at new.outbound.states) tells.3) h.2,
        )
    look-data looked.Nothing from =
        let tells =
        subst (λ (x : Outbound).
        TellsData id bytes looked.Nothing (record mid { outbound = x }) new) same from in
        kept-holds (Some bytes) refl tells.0 tells.1
    look-data looked.Empty from =
        let tells =
        subst (λ (x : Outbound).
        TellsData id bytes looked.Empty (record mid { outbound = x }) new) same from in
        kept-holds None (ap (map Byte) tells.0) tells.1 tells.2

  pub look-block : (got ahead : Out → List OutItem) (old mid new : Sending L In Out Shut) (id : ℕ)
      (bytes : List ℕ) (ends_it : Bool) (frame : Frame)
      → Took got ahead old mid id (polled.Block bytes ends_it) → new.senders ≡ mid.senders
      → Removes id ends_it (open_at old.outbound.states) (open_at new.outbound.states)
      → Ends old.outbound.states id ends_it new.outbound.states
      → SameOwed old.outbound.states new.outbound.states
      → new.outbound.due ≡ old.outbound.due
      → TellsBlock id ends_it bytes frame
      (record old.outbound { encoder = mid.outbound.encoder }) new.outbound
      → HoldsOn got (Some frame) old new
  look-block got ahead old mid new id bytes ends_it frame took senders leaves ended owed due tells
      run (marks, s, heeds) =
      let found =
      takes-block (shows (open_at old.outbound.states) id) (calls got old.senders.items)
      (calls got mid.senders.items) (aheads ahead mid.senders.items) old.outbound.encoder
      mid.outbound.encoder bytes ends_it took.takes in
      let served : Serves (Written frame ∷ run) new.outbound (open_at new.outbound.states)
      (calls got mid.senders.items) (marks ++ block_marks id found.1 ends_it) =
      head-serves run old.outbound new.outbound (open_at old.outbound.states)
      (open_at new.outbound.states) (calls got old.senders.items) (calls got mid.senders.items)
      marks id found.0 found.1 ends_it frame found.2 found.3 leaves
      (tells run marks found.1 old.outbound.encoder s.spells.1 found.4)
      (ap (λ due. due.items) (sym due)) (λ k. (owed.0 k).0) ended s in (
        marks ++ block_marks id found.1 ends_it,
        subst (λ senders.
            Serves (Written frame ∷ run) new.outbound (open_at new.outbound.states)
            (calls got senders.items) (marks ++ block_marks id found.1 ends_it))
            (sym senders) served,
        heeds-look run old new (block-ends old.outbound new.outbound id ends_it due owed ended)
            (λ k. (
              (owed.0 k).0,
              (owed.0 k).2,
              ends-heard old.outbound.states new.outbound.states id ends_it ended k,
            ))
            (λ k none.
            removes-closed id ends_it (open_at old.outbound.states) (open_at new.outbound.states)
            leaves k none) heeds,
      )
