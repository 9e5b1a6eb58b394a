-- What a taker keeps of what it polled.
use Rattle.std.proofs.Common.{
  ◌≡◌,
  ℕ,
  ◌+◌,
  min,
  false,
  List,
  [],
  ◌∷◌,
  ◌++◌,
  length,
  Option,
  Some,
  None,
  Bool,
  true,
  refl,
  sym,
  ap,
  subst,
  ◌∙◌,
  append_assoc,
  arith,
}
use Rattle.std.proofs.lemmas.List.{append-nil, length-append}
use Rattle.std.proofs.lemmas.List.Elements.{All-nil, All-cons, All-append}
use Rattle.lpm.specs.declared.fault.LpmFault.{LpmFault}
use Rattle.lpm.specs.declared.fault.LpmFault.TheVariants.{
  Compressed,
  BadFlag,
  TooLong,
  CutAtEnd,
  OutOfMemory,
}
use Rattle.lpm.specs.Messages.{frame, frames, IsMessage, IsUnfinished, IsFaulty}
use Rattle.lpm.proofs.Readings.{frames-push, IsFaulty-longer}
use Rattle.account.specs.declared.call.Shut.{Shut}
use Rattle.account.specs.declared.call.RequestEnd.{RequestEnd}
use Rattle.account.specs.declared.call.RequestEnd.TheVariants as told
use Rattle.callbox.specs.declared.piece.InPiece.{InPiece}
use Rattle.callbox.specs.declared.piece.InPiece.TheVariants as piece
use Rattle.callbox.specs.declared.taker.Progress.{Progress}
use Rattle.lane.specs.Lawful.{last_of}
use Rattle.account.specs.Accounts.{MayTell}
use Rattle.account.specs.Runs as runs
use Rattle.callbox.specs.InSides.{
  bytes_of,
  shut_of,
  TakesMessages,
  IsMissing,
  NeedsMore,
  EachNeeded,
  TellsFault,
  length_of,
}
use Rattle.account.proofs.SerialLemmas.{MayTell-fault, MayTell-more}
use Rattle.callbox.proofs.InLemmas.{bytes_of-bytes, bytes_of-shut, shut_of-push}

-- nothing told is always lawful
untold : (t : Option RequestEnd) (fed : List ℕ) (closed : Option Shut) (messages : List (List ℕ))
    → t ≡ None → MayTell t fed closed messages
untold t fed closed messages e =
    subst (λ (s : Option RequestEnd). MayTell s fed closed messages) (sym e) tt

pub took_message : (items : List InPiece) (p q : Progress) (messages : List (List ℕ))
    (message : List ℕ)
    → TakesMessages items p messages
    → IsMessage message → p.splitter ≡ frame message ++ q.splitter → q.unread ≡ p.unread
    → q.shut ≡ p.shut → q.told ≡ None → q.taken ≡ min (p.taken + 1) 18446744073709551615
    → TakesMessages items q (messages ++ message ∷ [])
took_message items p q messages message t fits front unread closed none count = record {
  missing = t.missing;
  whole = t.whole
      ∙ ap (λ (b : List ℕ). frames messages ++ (b ++ t.missing)) front
      ∙ ap (λ (b : List ℕ). frames messages ++ b)
      (append_assoc (frame message) q.splitter t.missing)
      ∙ sym (frames-push messages message (q.splitter ++ t.missing));
  each =
      All-append IsMessage messages (message ∷ []) t.each
      (All-cons IsMessage message [] fits (All-nil IsMessage));
  unread = subst (λ (b : Bool). IsMissing b items t.missing) (sym unread) t.unread;
  closed = closed ∙ t.closed;
  telling = untold q.told (bytes_of items) (shut_of items) (messages ++ message ∷ []) none;
  count = omega (arith, count, t.count, length-append messages (message ∷ []));
}

pub took_fault : (items : List InPiece) (p q : Progress) (messages : List (List ℕ))
    (fault : LpmFault)
    → TakesMessages items p messages
    → IsFaulty p.splitter fault → q.splitter ≡ p.splitter → q.unread ≡ p.unread → q.shut ≡ p.shut
    → q.told ≡ Some (told.Fault fault) → q.taken ≡ p.taken
    → TakesMessages items q messages
took_fault items p q messages fault t there splitter unread closed said count = record {
  missing = t.missing;
  whole = t.whole ∙ ap (λ (b : List ℕ). frames messages ++ (b ++ t.missing)) (sym splitter);
  each = t.each;
  unread = subst (λ (b : Bool). IsMissing b items t.missing) (sym unread) t.unread;
  closed = closed ∙ t.closed;
  telling =
      subst (λ (s : Option RequestEnd).
      MayTell s (bytes_of items) (shut_of items) messages) (sym said)
      (MayTell-fault (bytes_of items) messages (p.splitter ++ t.missing) (shut_of items) fault
      t.whole t.each (IsFaulty-longer p.splitter t.missing fault there));
  count = count ∙ t.count;
}

pub took_telling : (items : List InPiece) (p q : Progress) (messages : List (List ℕ))
    → TakesMessages items p messages
    → IsUnfinished p.splitter → p.unread ≡ false → q.splitter ≡ p.splitter → q.unread ≡ p.unread
    → q.shut ≡ p.shut → q.told ≡ runs.telling None p.splitter p.shut → q.taken ≡ p.taken
    → TakesMessages items q messages
took_telling items p q messages t unfinished read splitter unread closed said count =
    let whole : bytes_of items ≡ frames messages ++ p.splitter =
    t.whole
    ∙ ap (λ (b : List ℕ). frames messages ++ (p.splitter ++ b))
    (subst (λ (b : Bool). IsMissing b items t.missing) read t.unread)
    ∙ ap (λ (b : List ℕ). frames messages ++ b) (append-nil p.splitter) in
    record {
      missing = t.missing;
      whole = t.whole ∙ ap (λ (b : List ℕ). frames messages ++ (b ++ t.missing)) (sym splitter);
      each = t.each;
      unread = subst (λ (b : Bool). IsMissing b items t.missing) (sym unread) t.unread;
      closed = closed ∙ t.closed;
      telling =
          subst (λ (s : Option RequestEnd). MayTell s (bytes_of items) (shut_of items) messages)
          (sym (said ∙ ap (runs.telling None p.splitter) t.closed))
          (MayTell-more (bytes_of items) messages p.splitter (shut_of items) whole
          t.each unfinished);
      count = count ∙ t.count;
    }

-- where no message is whole, no fault stands and nothing came behind the pieces, more is needed
pub needs_more : (items : List InPiece) (p : Progress) (messages : List (List ℕ))
    → TakesMessages items p messages → IsUnfinished p.splitter → p.shut ≡ None → p.unread ≡ false
    → NeedsMore items messages
needs_more items p messages t unfinished unshut read =
    let whole : bytes_of items ≡ frames messages ++ p.splitter =
    t.whole
    ∙ ap (λ (b : List ℕ). frames messages ++ (p.splitter ++ b))
    (subst (λ (b : Bool). IsMissing b items t.missing) read t.unread)
    ∙ ap (λ (b : List ℕ). frames messages ++ b) (append-nil p.splitter) in (
      p.splitter,
      record { whole = whole; each = t.each; unfinished = unfinished },
      sym t.closed ∙ unshut,
    )

-- an item more was needed
pub needed_more : (got items now : List InPiece) (item : InPiece) (messages : List (List ℕ))
    → EachNeeded got items messages → now ≡ got ++ items → NeedsMore now messages
    → EachNeeded got (items ++ item ∷ []) messages
needed_more got [] now item messages each is more =
    (subst (λ (all : List InPiece). NeedsMore all messages) (is ∙ append-nil got) more, tt)
needed_more got (first ∷ items) now item messages each is more = (
  each.0,
  needed_more (got ++ first ∷ []) items now item messages each.1
      (is ∙ sym (append_assoc got (first ∷ []) items)) more,
)

-- the same, with the same told
pub took_same : (items : List InPiece) (p q : Progress) (messages : List (List ℕ))
    → TakesMessages items p messages
    → q.splitter ≡ p.splitter → q.unread ≡ p.unread → q.shut ≡ p.shut → q.told ≡ p.told
    → q.taken ≡ p.taken
    → TakesMessages items q messages
took_same items p q messages t splitter unread closed said count = record {
  missing = t.missing;
  whole = t.whole ∙ ap (λ (b : List ℕ). frames messages ++ (b ++ t.missing)) (sym splitter);
  each = t.each;
  unread = subst (λ (b : Bool). IsMissing b items t.missing) (sym unread) t.unread;
  closed = closed ∙ t.closed;
  telling =
      subst (λ (s : Option RequestEnd). MayTell s (bytes_of items) (shut_of items) messages)
      (sym said) t.telling;
  count = count ∙ t.count;
}

-- a piece more, of which some may be missing
pub took_piece : (items : List InPiece) (item : InPiece) (bytes missing : List ℕ) (p q : Progress)
    (messages : List (List ℕ))
    → TakesMessages items p messages
    → item ≡ piece.Bytes bytes → p.unread ≡ false → p.shut ≡ None → p.told ≡ None
    → q.splitter ++ missing ≡ p.splitter ++ bytes → IsMissing q.unread (items ++ item ∷ []) missing
    → q.shut ≡ p.shut → q.told ≡ p.told → q.taken ≡ p.taken
    → TakesMessages (items ++ item ∷ []) q messages
took_piece items item bytes missing p q messages t is read unshut none splitter unread
    closed said count =
    let all : bytes_of (items ++ item ∷ []) ≡ bytes_of items ++ bytes =
    ap (λ (x : InPiece). bytes_of (items ++ x ∷ [])) is ∙ bytes_of-bytes items bytes in
    let end : shut_of (items ++ item ∷ []) ≡ None =
    ap (λ (x : InPiece). shut_of (items ++ x ∷ [])) is
    ∙ shut_of-push items (piece.Bytes bytes) (sym t.closed ∙ unshut) in
    let whole : bytes_of items ≡ frames messages ++ p.splitter =
    t.whole
    ∙ ap (λ (b : List ℕ). frames messages ++ (p.splitter ++ b))
    (subst (λ (b : Bool). IsMissing b items t.missing) read t.unread)
    ∙ ap (λ (b : List ℕ). frames messages ++ b) (append-nil p.splitter) in
    record {
      missing = missing;
      whole =
          all ∙ ap (λ (b : List ℕ). b ++ bytes) whole
          ∙ append_assoc (frames messages) p.splitter bytes
          ∙ ap (λ (b : List ℕ). frames messages ++ b) (sym splitter);
      each = t.each;
      unread = unread;
      closed = closed ∙ unshut ∙ sym end;
      telling =
          untold q.told (bytes_of (items ++ item ∷ [])) (shut_of (items ++ item ∷ []))
          messages (said ∙ none);
      count = count ∙ t.count;
    }

pub took_shut : (items : List InPiece) (item : InPiece) (closed : Shut) (p q : Progress)
    (messages : List (List ℕ))
    → TakesMessages items p messages
    → item ≡ piece.Shut closed → p.unread ≡ false → p.shut ≡ None → p.told ≡ None
    → q.splitter ≡ p.splitter → q.unread ≡ p.unread → q.shut ≡ Some closed → q.told ≡ p.told
    → q.taken ≡ p.taken
    → TakesMessages (items ++ item ∷ []) q messages
took_shut items item closed p q messages t is read unshut none splitter unread now said count =
    let all : bytes_of (items ++ item ∷ []) ≡ bytes_of items =
    ap (λ (x : InPiece). bytes_of (items ++ x ∷ [])) is ∙ bytes_of-shut items closed in
    let end : shut_of (items ++ item ∷ []) ≡ Some closed =
    ap (λ (x : InPiece). shut_of (items ++ x ∷ [])) is
    ∙ shut_of-push items (piece.Shut closed) (sym t.closed ∙ unshut) in
    record {
      missing = t.missing;
      whole =
          all ∙ t.whole ∙ ap (λ (b : List ℕ). frames messages ++ (b ++ t.missing)) (sym splitter);
      each = t.each;
      unread =
          subst (λ (b : Bool). IsMissing b (items ++ item ∷ []) t.missing) (sym (unread ∙ read))
          (subst (λ (b : Bool). IsMissing b items t.missing) read t.unread);
      closed = now ∙ sym end;
      telling =
          untold q.told (bytes_of (items ++ item ∷ [])) (shut_of (items ++ item ∷ []))
          messages (said ∙ none);
      count = count ∙ t.count;
    }

-- the unread piece is read
pub took_again : (items : List InPiece) (item : InPiece) (bytes : List ℕ) (p q : Progress)
    (messages : List (List ℕ))
    → TakesMessages items p messages
    → last_of items ≡ Some item → item ≡ piece.Bytes bytes → p.unread ≡ true → p.told ≡ None
    → q.splitter ≡ p.splitter ++ bytes → q.unread ≡ false → q.shut ≡ p.shut → q.told ≡ p.told
    → q.taken ≡ p.taken
    → TakesMessages items q messages
took_again items item bytes p q messages t last is unread none splitter read closed said count =
    let missing : last_of items ≡ Some (piece.Bytes t.missing) =
    subst (λ (b : Bool). IsMissing b items t.missing) unread t.unread in
    let same : t.missing ≡ bytes = cc in
    record {
      missing = [];
      whole = t.whole ∙ ap (λ (b : List ℕ). frames messages ++ (p.splitter ++ b)) same
          ∙ ap (λ (b : List ℕ). frames messages ++ b) (sym splitter ∙ sym (append-nil q.splitter));
      each = t.each;
      unread = subst (λ (b : Bool). IsMissing b items []) (sym read) refl;
      closed = closed ∙ t.closed;
      telling = untold q.told (bytes_of items) (shut_of items) messages (said ∙ none);
      count = count ∙ t.count;
    }

pub tells_fault : (fault : LpmFault) (old : Option RequestEnd) → (fault ≡ OutOfMemory → ⊥)
    → TellsFault fault old (Some (told.Fault fault))
tells_fault OutOfMemory old other = absurd (other refl)
tells_fault Compressed old other = refl
tells_fault BadFlag old other = refl
tells_fault TooLong old other = refl
tells_fault CutAtEnd old other = refl

pub length_of-bytes : (item : InPiece) (bytes : List ℕ) → item ≡ piece.Bytes bytes
    → length_of item ≡ length bytes
length_of-bytes item bytes is = ap length_of is

pub owed_more : (items : List InPiece) (item : InPiece) (owed now next : ℕ)
    → now ≡ min (owed + length (bytes_of items)) 4294967295
    → next ≡ min (now + length_of item) 4294967295
    → next ≡ min (owed + length (bytes_of (items ++ item ∷ []))) 4294967295
owed_more items (piece.Bytes bytes) owed now next before sum = omega (
  arith,
  before,
  sum,
  ap length (bytes_of-bytes items bytes),
  length-append (bytes_of items) bytes,
)
owed_more items (piece.Shut closed) owed now next before sum =
    omega (arith, before, sum, ap length (bytes_of-shut items closed))
