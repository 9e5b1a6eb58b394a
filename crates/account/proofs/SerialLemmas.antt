-- What one event does to an account, and that it stays lawful.
use Rattle.std.proofs.Common.{
  ◌≡◌,
  ℕ,
  zero,
  suc,
  ◌<◌,
  get_or,
  true,
  false,
  List,
  [],
  ◌∷◌,
  ◌++◌,
  length,
  Option,
  Some,
  None,
  refl,
  sym,
  ap,
  ◌∙◌,
  append_assoc,
  arith,
  inl,
  inr,
}
use Rattle.std.specs.Prelude.{All, slice_get, is_none, is_some}
use Rattle.std.proofs.lemmas.List.{append-nil, length-append}
use Rattle.std.proofs.lemmas.List.Elements.{All-nil}
use Rattle.lists.specs.declared.field.Field.{Field}
use Rattle.lpm.specs.declared.fault.LpmFault.{LpmFault}
use Rattle.lpm.specs.declared.fault.LpmFault.TheVariants.{
  Compressed,
  BadFlag,
  TooLong,
  CutAtEnd,
  OutOfMemory,
}
use Rattle.lpm.specs.Messages.{
  frame,
  frames,
  IsMessage,
  IsUnfinished,
  IsFaulty,
  Spells,
  IsCut,
  IsNotCut,
}
use Rattle.lpm.specs.Reading.{Reading, messages_of, rest_of, fault_of}
use Rattle.lpm.specs.Splits.{Stands}
use Rattle.lpm.proofs.Readings.{IsFaultyAfter-longer, Spells-read, IsFaultyAfter-read, never_both}
use Rattle.lpm.proofs.WholeMessages.{reading_of-frame, reading_of-frames}
use Rattle.account.specs.declared.call.Account.{Account}
use Rattle.account.specs.declared.call.CallEvent.TheVariants as event
use Rattle.account.specs.declared.call.OutItem.{OutItem}
use Rattle.account.specs.declared.call.OutItem.TheVariants.{Head, Message, Trailers, Left}
use Rattle.account.specs.declared.call.Shut.{Shut}
use Rattle.account.specs.declared.call.Shut.TheVariants as shut
use Rattle.account.specs.declared.call.RequestEnd.{RequestEnd}
use Rattle.account.specs.declared.call.RequestEnd.TheVariants as told
use Rattle.account.specs.Accounts.{Begins, IsBody, IsResponse, MayTell, IsLawful}
use Rattle.account.specs.Runs.{telling, after_next, may_follow, last_of, after}
use Rattle.account.specs.declared.serial.SerialCall.{SerialCall}
use Rattle.account.specs.SerialCalls.{account_of, IsConsistent, IsFramed}

-- ---- feeding and shutting

pub after-feed : (a : Account) (bytes : List ℕ) → is_none a.shut ≡ true
    → after a (event.Feed bytes) ≡ record a { fed = a.fed ++ bytes }
unfolding after
after-feed a bytes e = rw e refl

pub after-feed_shut : (a : Account) (bytes : List ℕ) → is_none a.shut ≡ false
    → after a (event.Feed bytes) ≡ a
unfolding after
after-feed_shut a bytes e = rw e refl

pub after-shut : (a : Account) (closed : Shut) → is_none a.shut ≡ true
    → after a (event.Shut closed) ≡ record a { shut = Some closed }
unfolding after
after-shut a closed e = rw e refl

pub after-shut_shut : (a : Account) (closed : Shut) → is_none a.shut ≡ false
    → after a (event.Shut closed) ≡ a
unfolding after
after-shut_shut a closed e = rw e refl

never : {A : Type 0} (closed : Option Shut) (s : Shut) → is_none closed ≡ true → closed ≡ Some s → A
never None s e f = absurd cc
never (Some x) s e f = absurd cc

-- while the half isn't shut, more bytes leave what was told lawful
pub MayTell-longer : (t : Option RequestEnd) (fed more : List ℕ) (closed : Option Shut)
    (taken : List (List ℕ))
    → is_none closed ≡ true → MayTell t fed closed taken → MayTell t (fed ++ more) closed taken
MayTell-longer None fed more closed taken e h = tt
MayTell-longer (Some told.End) fed more closed taken e h = never closed shut.End e h.0
MayTell-longer (Some (told.Reset code)) fed more closed taken e h =
    never closed (shut.Reset code) e h.0
MayTell-longer (Some (told.Fault Compressed)) fed more closed taken e h =
    IsFaultyAfter-longer fed more taken Compressed h
MayTell-longer (Some (told.Fault BadFlag)) fed more closed taken e h =
    IsFaultyAfter-longer fed more taken BadFlag h
MayTell-longer (Some (told.Fault TooLong)) fed more closed taken e h =
    IsFaultyAfter-longer fed more taken TooLong h
MayTell-longer (Some (told.Fault CutAtEnd)) fed more closed taken e h = never closed shut.End e h.0
MayTell-longer (Some (told.Fault OutOfMemory)) fed more closed taken e h = h

-- and so does its shutting
pub MayTell-shut : (t : Option RequestEnd) (fed : List ℕ) (closed other : Option Shut)
    (taken : List (List ℕ))
    → is_none closed ≡ true → MayTell t fed closed taken → MayTell t fed other taken
MayTell-shut None fed closed other taken e h = tt
MayTell-shut (Some told.End) fed closed other taken e h = never closed shut.End e h.0
MayTell-shut (Some (told.Reset code)) fed closed other taken e h =
    never closed (shut.Reset code) e h.0
MayTell-shut (Some (told.Fault Compressed)) fed closed other taken e h = h
MayTell-shut (Some (told.Fault BadFlag)) fed closed other taken e h = h
MayTell-shut (Some (told.Fault TooLong)) fed closed other taken e h = h
MayTell-shut (Some (told.Fault CutAtEnd)) fed closed other taken e h = never closed shut.End e h.0
MayTell-shut (Some (told.Fault OutOfMemory)) fed closed other taken e h = h

-- ---- taking

pub slice_get-past : {A : Type 0} (xs : List A) → slice_get xs (length xs) ≡ None
slice_get-past [] = refl
slice_get-past (x ∷ xs) = slice_get-past xs

pub slice_get-behind : {A : Type 0} (xs : List A) (y : A) (ys : List A)
    → slice_get (xs ++ y ∷ ys) (length xs) ≡ Some y
slice_get-behind [] y ys = refl
slice_get-behind (x ∷ xs) y ys = slice_get-behind xs y ys

pub after-told : (a : Account) (t : RequestEnd) → a.told ≡ Some t → after a event.Take ≡ a
unfolding after
after-told a t e = rw e refl

after-take : (a : Account) → a.told ≡ None
    → after a event.Take ≡ after_next a (slice_get (messages_of a.fed) (length a.taken))
unfolding after
after-take a e = rw e refl

messages_of-behind : (fed : List ℕ) (taken : List (List ℕ)) (waiting : List ℕ) → All IsMessage taken
    → fed ≡ frames taken ++ waiting → messages_of fed ≡ taken ++ messages_of waiting
messages_of-behind fed taken waiting each whole =
    ap messages_of whole ∙ ap (λ (r : Reading). r.messages) (reading_of-frames taken waiting each)

rest_of-behind : (fed : List ℕ) (taken : List (List ℕ)) (waiting : List ℕ) → All IsMessage taken
    → fed ≡ frames taken ++ waiting → rest_of fed ≡ rest_of waiting
rest_of-behind fed taken waiting each whole =
    ap rest_of whole ∙ ap (λ (r : Reading). r.rest) (reading_of-frames taken waiting each)

fault_of-behind : (fed : List ℕ) (taken : List (List ℕ)) (waiting : List ℕ) → All IsMessage taken
    → fed ≡ frames taken ++ waiting → fault_of fed ≡ fault_of waiting
fault_of-behind fed taken waiting each whole =
    ap fault_of whole ∙ ap (λ (r : Reading). r.fault) (reading_of-frames taken waiting each)

pub after-take_message : (a : Account) (waiting message new : List ℕ) → a.told ≡ None
    → All IsMessage a.taken → a.fed ≡ frames a.taken ++ waiting → IsMessage message
    → waiting ≡ frame message ++ new
    → after a event.Take ≡ record a { taken = a.taken ++ message ∷ [] }
after-take_message a waiting message new none each whole fits front =
    let all : messages_of a.fed ≡ a.taken ++ message ∷ messages_of new =
    messages_of-behind a.fed a.taken waiting each whole
    ∙ ap (λ (b : List ℕ). a.taken ++ messages_of b) front
    ∙ ap (λ (r : Reading). a.taken ++ r.messages) (reading_of-frame message new fits) in
    after-take a none
    ∙ ap (λ (ms : List (List ℕ)). after_next a (slice_get ms (length a.taken))) all
    ∙ ap (after_next a) (slice_get-behind a.taken message (messages_of new))

alone : (waiting : List ℕ) → IsUnfinished waiting → Spells waiting [] waiting
alone waiting unfinished =
    record { whole = refl; each = All-nil IsMessage; unfinished = unfinished }

after_nothing : (a : Account) (waiting : List ℕ) → a.told ≡ None → All IsMessage a.taken
    → a.fed ≡ frames a.taken ++ waiting → messages_of waiting ≡ []
    → after a event.Take ≡ record a { told = telling (fault_of waiting) (rest_of waiting) a.shut }
after_nothing a waiting none each whole nothing =
    let all : messages_of a.fed ≡ a.taken =
    messages_of-behind a.fed a.taken waiting each whole
    ∙ ap (λ (ms : List (List ℕ)). a.taken ++ ms) nothing ∙ append-nil a.taken in
    after-take a none
    ∙ ap (λ (ms : List (List ℕ)). after_next a (slice_get ms (length a.taken))) all
    ∙ ap (after_next a) (slice_get-past a.taken)
    ∙ ap (λ (f : Option LpmFault). record a { told = telling f (rest_of a.fed) a.shut })
    (fault_of-behind a.fed a.taken waiting each whole)
    ∙ ap (λ (r : List ℕ). record a { told = telling (fault_of waiting) r a.shut })
    (rest_of-behind a.fed a.taken waiting each whole)

pub after-take_more : (a : Account) (waiting : List ℕ) → a.told ≡ None → All IsMessage a.taken
    → a.fed ≡ frames a.taken ++ waiting → IsUnfinished waiting
    → after a event.Take ≡ record a { told = telling None waiting a.shut }
after-take_more a waiting none each whole unfinished =
    let read = Spells-read waiting [] waiting (alone waiting unfinished) in
    after_nothing a waiting none each whole read.0
    ∙ ap (λ (f : Option LpmFault). record a { told = telling f (rest_of waiting) a.shut }) read.2
    ∙ ap (λ (r : List ℕ). record a { told = telling None r a.shut }) read.1

pub after-take_fault : (a : Account) (waiting : List ℕ) (fault : LpmFault) → a.told ≡ None
    → All IsMessage a.taken → a.fed ≡ frames a.taken ++ waiting → IsFaulty waiting fault
    → after a event.Take ≡ record a { told = Some (told.Fault fault) }
after-take_fault a waiting fault none each whole there =
    let read =
    IsFaultyAfter-read waiting [] fault
    (record { rest = waiting; whole = refl; each = All-nil IsMessage; faulty = there }) in
    after_nothing a waiting none each whole read.0
    ∙ ap (λ (f : Option LpmFault). record a { told = telling f (rest_of waiting) a.shut }) read.1

-- what is told where no message is left is lawful
pub MayTell-more : (fed : List ℕ) (taken : List (List ℕ)) (waiting : List ℕ) (closed : Option Shut)
    → fed ≡ frames taken ++ waiting → All IsMessage taken → IsUnfinished waiting
    → MayTell (telling None waiting closed) fed closed taken
MayTell-more fed taken waiting None whole each unfinished = tt
MayTell-more fed taken waiting (Some (shut.Reset code)) whole each unfinished =
    (refl, (waiting, record { whole = whole; each = each; unfinished = unfinished }))
MayTell-more fed taken [] (Some shut.End) whole each unfinished =
    (refl, whole ∙ append-nil (frames taken))
MayTell-more fed taken (byte ∷ waiting) (Some shut.End) whole each unfinished = (
  refl,
  (byte ∷ waiting, record { whole = whole; each = each; unfinished = unfinished }, λ e. cc),
)

pub MayTell-fault : (fed : List ℕ) (taken : List (List ℕ)) (waiting : List ℕ) (closed : Option Shut)
    (fault : LpmFault)
    → fed ≡ frames taken ++ waiting → All IsMessage taken → IsFaulty waiting fault
    → MayTell (Some (told.Fault fault)) fed closed taken
MayTell-fault fed taken waiting closed Compressed whole each there =
    record { rest = waiting; whole = whole; each = each; faulty = there }
MayTell-fault fed taken waiting closed BadFlag whole each there =
    record { rest = waiting; whole = whole; each = each; faulty = there }
MayTell-fault fed taken waiting closed TooLong whole each there =
    record { rest = waiting; whole = whole; each = each; faulty = there }
MayTell-fault fed taken [] closed CutAtEnd whole each there = absurd there
MayTell-fault fed taken (byte ∷ waiting) closed CutAtEnd whole each there = absurd there
MayTell-fault fed taken [] closed OutOfMemory whole each there = absurd there
MayTell-fault fed taken (byte ∷ waiting) closed OutOfMemory whole each there = absurd there

-- an unfinished rest that isn't cut is empty
pub nothing_left : (waiting : List ℕ) → IsUnfinished waiting → IsNotCut waiting → waiting ≡ []
nothing_left waiting unfinished (inl (messages, spells)) =
    sym (Spells-read waiting [] waiting (alone waiting unfinished)).1
    ∙ (Spells-read waiting messages [] spells).1
nothing_left waiting unfinished (inr (messages, fault, faulty)) =
    absurd (never_both waiting [] messages waiting fault (alone waiting unfinished) faulty)

pub some_left : (waiting : List ℕ) → IsCut waiting
    → (byte : ℕ) × (rest : List ℕ) × (waiting ≡ byte ∷ rest)
some_left [] cut =
    absurd (omega
    (arith, cut.some, ap length cut.spells.whole, length-append (frames cut.messages) cut.rest))
some_left (byte ∷ rest) cut = (byte, rest, refl)

-- ---- giving and sending

abbrev pub last : OutItem → List OutItem → OutItem
last item [] = item
last item (next ∷ items) = last next items

last_of-cons : (item : OutItem) (items : List OutItem)
    → slice_get (item ∷ items) (length items) ≡ Some (last item items)
last_of-cons item [] = refl
last_of-cons item (next ∷ items) = last_of-cons next items

pub last_of-last : (item : OutItem) (items : List OutItem)
    → last_of (item ∷ items) ≡ Some (last item items)
last_of-last item items = ap (slice_get (item ∷ items)) (omega arith) ∙ last_of-cons item items

-- behind trailers nothing may follow
after_trailers : (previous item : OutItem) (items : List OutItem) → items ≡ []
    → (fields : List Field) → previous ≡ Trailers fields
    → may_follow (Some (last previous items)) item ≡ true → ⊥
after_trailers previous item [] none fields e h =
    let f = ap (λ (p : OutItem). may_follow (Some p) item) e in
    cc
after_trailers previous item (next ∷ items) none fields e h = cc

-- nor behind the word that the call was left
after_left : (previous item : OutItem) (items : List OutItem) → items ≡ [] → previous ≡ Left
    → may_follow (Some (last previous items)) item ≡ true → ⊥
after_left previous item [] none e h =
    let f = ap (λ (p : OutItem). may_follow (Some p) item) e in
    cc
after_left previous item (next ∷ items) none e h = cc

body_push : (previous : OutItem) (items : List OutItem) (item : OutItem) → IsBody items
    → may_follow (Some (last previous items)) item ≡ true → IsFramed item
    → IsBody (items ++ item ∷ [])
body_push previous [] (Message bytes) body follows framed = (framed, tt)
body_push previous [] (Trailers fields) body follows framed = refl
body_push previous [] Left body follows framed = refl
body_push (Head first) [] (Head fields) body follows framed = absurd cc
body_push (Message first) [] (Head fields) body follows framed = absurd cc
body_push (Trailers first) [] (Head fields) body follows framed = absurd cc
body_push Left [] (Head fields) body follows framed = absurd cc
body_push previous (Head fields ∷ items) item body follows framed = absurd body
body_push previous (Message bytes ∷ items) item body follows framed =
    (body.0, body_push (Message bytes) items item body.1 follows framed)
body_push previous (Trailers fields ∷ items) item body follows framed =
    absurd (after_trailers (Trailers fields) item items body fields refl follows)
body_push previous (Left ∷ items) item body follows framed =
    absurd (after_left Left item items body refl follows)

response_push : (given : List OutItem) (item : OutItem) → IsResponse given
    → may_follow (last_of given) item ≡ true → IsFramed item → IsResponse (given ++ item ∷ [])
response_push [] (Head fields) response follows framed = tt
response_push [] (Message bytes) response follows framed = absurd cc
response_push [] (Trailers fields) response follows framed = refl
response_push [] Left response follows framed = refl
response_push (Head fields ∷ items) item response follows framed =
    body_push (Head fields) items item response
    (ap (λ (o : Option OutItem). may_follow o item) (sym (last_of-last (Head fields) items))
    ∙ follows) framed
response_push (Message bytes ∷ items) item response follows framed = absurd response
response_push (Trailers fields ∷ items) item response follows framed =
    absurd (after_trailers (Trailers fields) item items response fields refl
    (ap (λ (o : Option OutItem). may_follow o item) (sym (last_of-last (Trailers fields) items))
    ∙ follows))
response_push (Left ∷ items) item response follows framed =
    absurd (after_left Left item items response refl
    (ap (λ (o : Option OutItem). may_follow o item) (sym (last_of-last Left items)) ∙ follows))

pub IsResponse-push : (given : List OutItem) (item : OutItem) → IsResponse given
    → may_follow (last_of given) item ≡ true → IsFramed item → IsResponse (given ++ item ∷ [])
IsResponse-push = response_push

pub after-give : (a : Account) (item : OutItem) → may_follow (last_of a.given) item ≡ true
    → after a (event.Give item) ≡ record a { given = a.given ++ item ∷ [] }
unfolding after
after-give a item e = rw e refl

pub after-give_not : (a : Account) (item : OutItem) → may_follow (last_of a.given) item ≡ false
    → after a (event.Give item) ≡ a
unfolding after
after-give_not a item e = rw e refl

pub after-send : (a : Account) (item : OutItem) → slice_get a.given (length a.sent) ≡ Some item
    → after a event.Send ≡ record a { sent = a.sent ++ item ∷ [] }
unfolding after
after-send a item e = rw e refl

pub after-send_none : (a : Account) → slice_get a.given (length a.sent) ≡ None
    → after a event.Send ≡ a
unfolding after
after-send_none a e = rw e refl

-- a front of what was given goes on
pub Begins-push : (sent given : List OutItem) (item : OutItem) → Begins sent given
    → slice_get given (length sent) ≡ Some item → Begins (sent ++ item ∷ []) given
Begins-push sent given item ([], is) e =
    let none : slice_get given (length sent) ≡ None =
    ap (λ (g : List OutItem). slice_get g (length sent)) (is ∙ append-nil sent)
    ∙ slice_get-past sent in
    absurd cc
Begins-push sent given item (next ∷ rest, is) e =
    let some : slice_get given (length sent) ≡ Some next =
    ap (λ (g : List OutItem). slice_get g (length sent)) is ∙ slice_get-behind sent next rest in
    let same : item ≡ next = cc in (
      rest,
      is ∙ ap (λ (x : OutItem). sent ++ x ∷ rest) (sym same)
          ∙ sym (append_assoc sent (item ∷ []) rest),
    )

-- giving leaves what was sent a front
pub Begins-longer : (sent given : List OutItem) (item : OutItem) → Begins sent given
    → Begins sent (given ++ item ∷ [])
Begins-longer sent given item (rest, is) = (
  rest ++ item ∷ [],
  ap (λ (g : List OutItem). g ++ item ∷ []) is ∙ append_assoc sent rest (item ∷ []),
)

-- ---- for the code

pub none_unless : (o : Option Shut) → is_some o ≡ false → is_none o ≡ true
none_unless None e = refl
none_unless (Some x) e = absurd cc

pub some_then : (o : Option Shut) → is_some o ≡ true → is_none o ≡ false
some_then None e = absurd cc
some_then (Some x) e = refl

pub told_none : (o : Option RequestEnd) → is_some o ≡ false → o ≡ None
told_none None e = refl
told_none (Some x) e = absurd cc

pub after-told_some : (a : Account) → is_some a.told ≡ true → after a event.Take ≡ a
after-told_some a e = by_told a.told refl
  where
    by_told : (t : Option RequestEnd) → a.told ≡ t → after a event.Take ≡ a
    by_told None is = let none = ap is_some is in absurd cc
    by_told (Some t) is = after-told a t is

pub telling-ended : (waiting : List ℕ) (closed : Option Shut) → closed ≡ Some shut.End
    → waiting ≡ [] → Some told.End ≡ telling None waiting closed
telling-ended waiting closed e nothing = rw (e, nothing) refl

pub telling-cut : (waiting : List ℕ) (closed : Option Shut) (fault : LpmFault)
    → closed ≡ Some shut.End → IsCut waiting → fault ≡ CutAtEnd
    → Some (told.Fault fault) ≡ telling None waiting closed
telling-cut waiting closed fault e cut is =
    let some = some_left waiting cut in
    rw (e, is, some.2) refl

pub consistent_lawful : (r : SerialCall) → IsConsistent r → IsLawful (account_of r)
consistent_lawful r c = record {
  taken = (
    messages_of r.splitter,
    messages_of-behind r.fed.items r.taken.items r.splitter c.each c.whole,
  );
  told = c.told;
  sent = c.sent;
  given = c.given;
}

pub stands_there : (fault : LpmFault) (P : Type 0) → (fault ≡ OutOfMemory → ⊥) → Stands fault P → P
stands_there OutOfMemory P other there = absurd (other refl)
stands_there Compressed P other there = there
stands_there BadFlag P other there = there
stands_there TooLong P other there = there
stands_there CutAtEnd P other there = there

-- what was read at an index
pub read_at : (xs : List OutItem) (i : ℕ) (x : OutItem) → i < length xs → x ≡ get_or xs i x
    → slice_get xs i ≡ Some x
read_at [] i x lt e = absurd (omega (arith, lt))
read_at (y ∷ ys) zero x lt e = ap (λ (z : OutItem). Some z) (sym e)
read_at (y ∷ ys) (suc i) x lt e = read_at ys i x (omega (arith, lt)) e
