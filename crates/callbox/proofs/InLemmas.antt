-- What went through the in side, item by item, and the run of its events.
use Rattle.std.proofs.Common.{
  ◌≡◌,
  ℕ,
  ◌+◌,
  min,
  Bool,
  true,
  false,
  List,
  [],
  ◌∷◌,
  ◌++◌,
  length,
  Option,
  Some,
  None,
  refl,
  sym,
  ap,
  subst,
  ◌∙◌,
  append_assoc,
  arith,
  MatchBool,
}
use Rattle.std.specs.Prelude.{All, is_none, map, fold}
use Rattle.std.specs.List.{concat}
use Rattle.std.proofs.lemmas.List.{append-nil, length-append}
use Rattle.std.proofs.lemmas.List.Elements.{All-nil, All-cons, All-head, All-tail}
use Rattle.lane.specs.Lawful.{count_of}
use Rattle.lpm.specs.declared.fault.LpmFault.TheVariants.{
  Compressed,
  BadFlag,
  TooLong,
  CutAtEnd,
  OutOfMemory,
}
use Rattle.lpm.specs.Messages.{frame, frames, IsMessage}
use Rattle.lpm.specs.Reading.{Reading, messages_of}
use Rattle.lpm.proofs.WholeMessages.{reading_of-frames}
use Rattle.lpm.proofs.Readings.{frames-cons}
use Rattle.std.proofs.lemmas.Grind.{flat_map-append, fold-append}
use Rattle.callbox.specs.declared.taker.Progress.{Progress}
use Rattle.callbox.specs.InAccounts.{CountsIn}
use Rattle.account.specs.declared.call.Account.{Account}
use Rattle.account.specs.declared.call.CallEvent.TheVariants as event
use Rattle.account.specs.declared.call.Shut.{Shut}
use Rattle.account.specs.declared.call.Shut.TheVariants as shut
use Rattle.account.specs.declared.call.RequestEnd.{RequestEnd}
use Rattle.account.specs.declared.call.RequestEnd.TheVariants as told
use Rattle.callbox.specs.declared.piece.InPiece.{InPiece}
use Rattle.callbox.specs.declared.piece.InPiece.TheVariants as piece
use Rattle.account.specs.Accounts.{MayTell}
use Rattle.account.specs.Runs.{after, run, opened, telling}
use Rattle.callbox.specs.InSides.{
  pieces_of,
  bytes_of,
  shut_of,
  ends_at_shut,
  shut_if,
  once,
  in_account,
  in_events,
  TakesMessages,
}
use Rattle.account.proofs.SerialLemmas.{
  MayTell-longer,
  MayTell-shut,
  after-feed,
  after-shut,
  after-take_message,
  after-take_more,
  after-take_fault,
}

-- ---- one item more

pub shut_of-push : (items : List InPiece) (item : InPiece) → shut_of items ≡ None
    → shut_of (items ++ item ∷ []) ≡ shut_of (item ∷ [])
shut_of-push [] item e = refl
shut_of-push (piece.Bytes bytes ∷ items) item e = shut_of-push items item e
shut_of-push (piece.Shut closed ∷ items) item e = absurd cc

pub ends_at_shut-push : (items : List InPiece) (item : InPiece) → shut_of items ≡ None
    → ends_at_shut (items ++ item ∷ []) ≡ true
ends_at_shut-push [] (piece.Bytes bytes) e = refl
ends_at_shut-push [] (piece.Shut closed) e = refl
ends_at_shut-push (piece.Bytes bytes ∷ items) item e = ends_at_shut-push items item e
ends_at_shut-push (piece.Shut closed ∷ items) item e = absurd cc

pub ends_at_shut-open : (items : List InPiece) → shut_of items ≡ None → ends_at_shut items ≡ true
ends_at_shut-open [] e = refl
ends_at_shut-open (piece.Bytes bytes ∷ items) e = ends_at_shut-open items e
ends_at_shut-open (piece.Shut closed ∷ items) e = absurd cc

pub bytes_of-append : (items more : List InPiece)
    → bytes_of (items ++ more) ≡ bytes_of items ++ bytes_of more
bytes_of-append [] more = refl
bytes_of-append (piece.Bytes bytes ∷ items) more =
    ap (λ (b : List ℕ). bytes ++ b) (bytes_of-append items more)
    ∙ sym (append_assoc bytes (bytes_of items) (bytes_of more))
bytes_of-append (piece.Shut closed ∷ items) more = bytes_of-append items more

pub bytes_of-shut : (items : List InPiece) (closed : Shut)
    → bytes_of (items ++ piece.Shut closed ∷ []) ≡ bytes_of items
bytes_of-shut items closed =
    bytes_of-append items (piece.Shut closed ∷ []) ∙ append-nil (bytes_of items)

pub bytes_of-bytes : (items : List InPiece) (bytes : List ℕ)
    → bytes_of (items ++ piece.Bytes bytes ∷ []) ≡ bytes_of items ++ bytes
bytes_of-bytes items bytes =
    bytes_of-append items (piece.Bytes bytes ∷ [])
    ∙ ap (λ (b : List ℕ). bytes_of items ++ b) (append-nil bytes)

-- ---- shutting

abbrev pub Placed : Bool → List InPiece → List InPiece → Shut → Type 0
Placed placed put new kind = MatchBool placed (new ≡ put ++ piece.Shut kind ∷ []) (new ≡ put)

pub placed_counted : (placed : Bool) (put new : List InPiece) (kind : Shut)
    → Placed placed put new kind → count_of (bytes_of put) ≡ count_of (bytes_of new)
placed_counted true put new kind is = ap count_of (sym (ap bytes_of is ∙ bytes_of-shut put kind))
placed_counted false put new kind is =
    ap (λ (items : List InPiece). count_of (bytes_of items)) (sym is)

pub placed_last : (placed : Bool) (put new : List InPiece) (kind : Shut) → shut_of put ≡ None
    → Placed placed put new kind → ends_at_shut new ≡ true
placed_last true put new kind e is = ap ends_at_shut is ∙ ends_at_shut-push put (piece.Shut kind) e
placed_last false put new kind e is = ap ends_at_shut is ∙ ends_at_shut-open put e

pub placed_shut : (placed : Bool) (put new : List InPiece) (kind : Shut) → shut_of put ≡ None
    → Placed placed put new kind → shut_of new ≡ shut_if placed kind
placed_shut true put new kind e is = ap shut_of is ∙ shut_of-push put (piece.Shut kind) e
placed_shut false put new kind e is = ap shut_of is ∙ e

-- ---- what was polled is a front of what was put

pub nothing_behind : (items more : List InPiece) (closed : Shut)
    → ends_at_shut (items ++ more) ≡ true → shut_of items ≡ Some closed → more ≡ []
nothing_behind [] more closed last e = absurd cc
nothing_behind (piece.Bytes bytes ∷ items) more closed last e =
    nothing_behind items more closed last e
nothing_behind (piece.Shut other ∷ []) [] closed last e = refl
nothing_behind (piece.Shut other ∷ []) (item ∷ more) closed last e = absurd cc
nothing_behind (piece.Shut other ∷ item ∷ items) more closed last e = absurd cc

-- ---- the run

run_feeds : (pieces : List (List ℕ)) (a : Account) → is_none a.shut ≡ true
    → fold after a (map event.Feed pieces) ≡ record a { fed = a.fed ++ concat pieces }
run_feeds [] a e = ap (λ (fed : List ℕ). record a { fed = fed }) (sym (append-nil a.fed))
run_feeds (bytes ∷ pieces) a e =
    ap (λ (b : Account). fold after b (map event.Feed pieces)) (after-feed a bytes e)
    ∙ run_feeds pieces (record a { fed = a.fed ++ bytes }) e
    ∙ ap (λ (fed : List ℕ). record a { fed = fed }) (append_assoc a.fed bytes (concat pieces))

pub fed_more : (put new : List InPiece) (bytes : List ℕ) (fed now : ℕ)
    → fed ≡ count_of (bytes_of put) → new ≡ put ++ piece.Bytes bytes ∷ []
    → now ≡ min (fed + length bytes) 18446744073709551615
    → now ≡ count_of (bytes_of new)
fed_more put new bytes fed now counted is sum =
    let more : bytes_of new ≡ bytes_of put ++ bytes = ap bytes_of is ∙ bytes_of-bytes put bytes in
    omega (arith, sum, counted, ap length more, length-append (bytes_of put) bytes)

run_shut : (closed : Option Shut) (a : Account) → a.shut ≡ None
    → fold after a (once event.Shut closed) ≡ record a { shut = closed }
run_shut None a e = ap (λ (s : Option Shut). record a { shut = s }) e
run_shut (Some closed) a e = after-shut a closed (ap is_none e)

All-parts : {A : Type 0} (P : A → Type 0) (front back : List A) → All P (front ++ back)
    → All P front × All P back
All-parts P [] back each = (All-nil P, each)
All-parts P (x ∷ front) back each =
    let tail = All-parts P front back (All-tail P x (front ++ back) each) in
    (All-cons P x front (All-head P x (front ++ back) each) tail.0, tail.1)

All-before : {A : Type 0} (P : A → Type 0) (front back : List A)
    → All P (front ++ back) → All P front
All-before P front back each = (All-parts P front back each).0

All-at : {A : Type 0} (P : A → Type 0) (front : List A) (x : A) (back : List A)
    → All P (front ++ x ∷ back) → P x
All-at P front x back each = All-head P x back (All-parts P front (x ∷ back) each).1

frames-split : (before : List (List ℕ)) (message : List ℕ)
    (messages : List (List ℕ)) (rest : List ℕ)
    → frames (before ++ message ∷ messages) ++ rest
    ≡ frames before ++ (frame message ++ (frames messages ++ rest))
frames-split before message messages rest =
    ap (λ (b : List ℕ). b ++ rest) (flat_map-append frame before (message ∷ messages))
    ∙ append_assoc (frames before) (frames (message ∷ messages)) rest
    ∙ ap (λ (b : List ℕ). frames before ++ b) (frames-cons message messages rest)

run_takes : (messages before : List (List ℕ)) (rest : List ℕ) (a : Account) → a.told ≡ None
    → a.taken ≡ before → All IsMessage (before ++ messages)
    → a.fed ≡ frames (before ++ messages) ++ rest
    → fold after a (map (λ _. event.Take) messages) ≡ record a { taken = before ++ messages }
run_takes [] before rest a none taken each whole =
    ap (λ (ms : List (List ℕ)). record a { taken = ms }) (taken ∙ sym (append-nil before))
run_takes (message ∷ messages) before rest a none taken each whole =
    let regrouped : (before ++ message ∷ []) ++ messages ≡ before ++ message ∷ messages =
    append_assoc before (message ∷ []) messages in
    let front : All IsMessage before = All-before IsMessage before (message ∷ messages) each in
    let fits : IsMessage message = All-at IsMessage before message messages each in
    let step : after a event.Take ≡ record a { taken = a.taken ++ message ∷ [] } =
    after-take_message a (frame message ++ (frames messages ++ rest)) message
    (frames messages ++ rest) none
    (subst (λ (ms : List (List ℕ)). All IsMessage ms) (sym taken) front)
    (whole ∙ frames-split before message messages rest
    ∙ ap (λ (ms : List (List ℕ)). frames ms ++ (frame message ++ (frames messages ++ rest)))
    (sym taken)) fits refl in
    ap (λ (b : Account). fold after b (map (λ _. event.Take) messages))
    (step ∙ ap (λ (ms : List (List ℕ)). record a { taken = ms ++ message ∷ [] }) taken)
    ∙ run_takes messages (before ++ message ∷ []) rest
    (record a { taken = before ++ message ∷ [] }) none refl
    (subst (λ (ms : List (List ℕ)). All IsMessage ms) (sym regrouped) each)
    (whole ∙ ap (λ (ms : List (List ℕ)). frames ms ++ rest) (sym regrouped))
    ∙ ap (λ (ms : List (List ℕ)). record a { taken = ms }) regrouped

cut : (rest : List ℕ) → (rest ≡ [] → ⊥)
    → telling None rest (Some shut.End) ≡ Some (told.Fault CutAtEnd)
cut [] some = absurd (some refl)
cut (byte ∷ rest) some = refl

run_told : (said : Option RequestEnd) (a : Account) → a.told ≡ None → All IsMessage a.taken
    → MayTell said a.fed a.shut a.taken
    → fold after a (once (λ _. event.Take) said) ≡ record a { told = said }
run_told None a none each may = ap (λ (s : Option RequestEnd). record a { told = s }) none
run_told (Some told.End) a none each may =
    after-take_more a [] none each (may.1 ∙ sym (append-nil (frames a.taken))) tt
    ∙ ap (λ (s : Option Shut). record a { told = telling None [] s }) may.0
run_told (Some (told.Reset code)) a none each may =
    after-take_more a may.1.0 none each may.1.1.whole may.1.1.unfinished
    ∙ ap (λ (s : Option Shut). record a { told = telling None may.1.0 s }) may.0
run_told (Some (told.Fault Compressed)) a none each may =
    after-take_fault a may.rest Compressed none each may.whole may.faulty
run_told (Some (told.Fault BadFlag)) a none each may =
    after-take_fault a may.rest BadFlag none each may.whole may.faulty
run_told (Some (told.Fault TooLong)) a none each may =
    after-take_fault a may.rest TooLong none each may.whole may.faulty
run_told (Some (told.Fault CutAtEnd)) a none each may =
    after-take_more a may.1.0 none each may.1.1.whole may.1.1.unfinished
    ∙ ap (λ (s : Option Shut). record a { told = telling None may.1.0 s }) may.0
    ∙ ap (λ (t : Option RequestEnd). record a { told = t }) (cut may.1.0 may.1.2)
run_told (Some (told.Fault OutOfMemory)) a none each may = absurd may

pub run_in : (pieces : List (List ℕ)) (closed : Option Shut) (messages : List (List ℕ))
    (said : Option RequestEnd) (rest : List ℕ)
    → All IsMessage messages → concat pieces ≡ frames messages ++ rest
    → MayTell said (concat pieces) closed messages
    → in_account pieces closed messages said ≡ run (in_events pieces closed messages said)
run_in pieces closed messages said rest each whole may =
    let takes = map (λ _. event.Take) messages in
    let last = once (λ _. event.Take) said in
    let fed : Account = record opened { fed = concat pieces } in
    let shut : Account = record fed { shut = closed } in
    let taken : Account = record shut { taken = messages } in
    sym (
    fold-append after opened (map event.Feed pieces) (once event.Shut closed ++ (takes ++ last))
    ∙ ap (λ (a : Account). fold after a (once event.Shut closed ++ (takes ++ last)))
    (run_feeds pieces opened refl)
    ∙ fold-append after fed (once event.Shut closed) (takes ++ last)
    ∙ ap (λ (a : Account). fold after a (takes ++ last)) (run_shut closed fed refl)
    ∙ fold-append after shut takes last
    ∙ ap (λ (a : Account). fold after a last) (run_takes messages [] rest shut refl refl each whole)
    ∙ run_told said taken refl each may)

-- a shut that was put is the one that counts
abbrev pub fits_end : Option Shut → Option Shut → Type 0
fits_end None closed = Unit {0}
fits_end (Some s) closed = closed ≡ Some s

fits_some : (o closed : Option Shut) (s : Shut) → o ≡ Some s → fits_end o closed → closed ≡ Some s
fits_some None closed s e fits = absurd cc
fits_some (Some other) closed s e fits = fits ∙ e

pub fits_kind : (o : Option Shut) (placed : Bool) (kind : Shut) → o ≡ shut_if placed kind
    → fits_end o (Some kind)
fits_kind None placed kind e = tt
fits_kind (Some s) true kind e = sym e
fits_kind (Some s) false kind e = absurd cc

pub fits_open : (o : Option Shut) → o ≡ None → fits_end o None
fits_open None e = tt
fits_open (Some s) e = absurd cc

-- what was told of what was polled may be told of what was put
pub MayTell-put : (said : Option RequestEnd) (got put rest : List InPiece) (closed : Option Shut)
    (messages : List (List ℕ))
    → put ≡ got ++ rest → ends_at_shut put ≡ true → fits_end (shut_of put) closed
    → MayTell said (bytes_of got) (shut_of got) messages
    → MayTell said (bytes_of put) closed messages
MayTell-put said got put rest closed messages is last fits may = by_shut (shut_of got) refl
  where
    by_shut : (s : Option Shut) → shut_of got ≡ s → MayTell said (bytes_of put) closed messages
    by_shut None e =
        let all : bytes_of put ≡ bytes_of got ++ bytes_of rest =
        ap bytes_of is ∙ bytes_of-append got rest in
        let none : MayTell said (bytes_of got) None messages =
        subst (λ (s : Option Shut). MayTell said (bytes_of got) s messages) e may in
        let longer = MayTell-longer said (bytes_of got) (bytes_of rest) None messages refl none in
        subst (λ (b : List ℕ). MayTell said b closed messages) (sym all)
        (MayTell-shut said (bytes_of got ++ bytes_of rest) None closed messages refl longer)
    by_shut (Some s) e =
        let nothing : rest ≡ [] = nothing_behind got rest s (ap ends_at_shut (sym is) ∙ last) e in
        let same : put ≡ got =
        is ∙ ap (λ (xs : List InPiece). got ++ xs) nothing ∙ append-nil got in
        let end : closed ≡ shut_of got =
        fits_some (shut_of put) closed s (ap shut_of same ∙ e) fits ∙ sym e in
        subst (λ (items : List InPiece). MayTell said (bytes_of items) closed messages) (sym same)
        (subst (λ (s : Option Shut). MayTell said (bytes_of got) s messages) (sym end) may)

-- the two ends say one account
pub counts_in : (got put rest : List InPiece) (progress : Progress) (closed : Option Shut) (fed : ℕ)
    (messages : List (List ℕ))
    → put ≡ got ++ rest → ends_at_shut put ≡ true
    → fits_end (shut_of put) closed → fed ≡ count_of (bytes_of put)
    → TakesMessages got progress messages
    → CountsIn (pieces_of put) closed messages progress.told
    (record { fed = fed; shut = closed; taken = progress.taken; told = progress.told })
counts_in got put rest progress closed fed messages is last fits counted t =
    let behind = (progress.splitter ++ t.missing) ++ bytes_of rest in
    let whole : bytes_of put ≡ frames messages ++ behind =
    ap bytes_of is ∙ bytes_of-append got rest ∙ ap (λ (b : List ℕ). b ++ bytes_of rest) t.whole
    ∙ append_assoc (frames messages) (progress.splitter ++ t.missing) (bytes_of rest) in
    let may = MayTell-put progress.told got put rest closed messages is last fits t.telling in
    record {
      lawful = record {
        taken = (
          messages_of behind,
          ap messages_of whole
              ∙ ap (λ (r : Reading). r.messages) (reading_of-frames messages behind t.each),
        );
        told = may;
        sent = ([], refl);
        given = tt;
      };
      run = run_in (pieces_of put) closed messages progress.told behind t.each whole may;
      fed = counted;
      shut = refl;
      taken = t.count;
      told = refl;
    }
