-- What is left of the law of the book by another connection, another call, one more and one less.
use Rattle.std.proofs.Common.{
  ◌≡◌,
  ℕ,
  ◌+◌,
  ◌-◌,
  min,
  ◌<◌,
  ◌≤◌,
  ◌++◌,
  List,
  [],
  ◌∷◌,
  length,
  length-append,
  cond,
  Bool,
  true,
  false,
  true≢false,
  Some,
  None,
  sym,
  ◌∙◌,
  subst,
  refl,
  arith,
  nat_eq,
}
use Rattle.std.specs.Prelude.{All, AllPairs, IfSome, sum_by, suc}
use Rattle.std.specs.Map.{lookup, set_value, remove_entry, keys_of, values_of}
use Rattle.std.proofs.lemmas.Bool.Decides.{nat_tests}
use Rattle.std.proofs.lemmas.List.Elements.{All-weaker, All-push}
use Rattle.std.proofs.lemmas.List.Kept.{AllPairs-cons}
use Rattle.std.proofs.lemmas.List.Quantifiers.{all_pairs_push}
use Rattle.std.proofs.lemmas.List.Sums.{sum_by_push}
use Rattle.std.proofs.lemmas.Map.{keys-set_value, length-set_value}
use Rattle.std.proofs.lemmas.Map.Entries.{sum_by-set_value, sum_by-remove_entry}
use Rattle.std.proofs.lemmas.Map.Views.{
  All-values-set_value,
  All-map-remove_entry,
  IfSome-lookup_from_All,
}
use Rattle.creditbook.specs.declared.book.counts.Counts.{Counts}
use Rattle.creditbook.specs.declared.book.Call.{Call}
use Rattle.creditbook.specs.Books.{
  Books,
  IsLawful,
  Moves,
  no_change,
  IsLive,
  IsCounted,
  IsOdd,
  call_at,
  with_call,
  with_received,
  with_returned,
  with_announced,
  after_admit,
  after_receive_on,
  after_give_back_on,
  after_cut_on,
  after_cut,
  after_announce,
  is_half_closed,
  after_end_remote,
  after_end_local,
  local_closed,
  new_call,
  unreturned,
}

-- a live call
pub live_at : (b : Books) (id : ℕ) (call : Call) → IsLawful b → call_at b id ≡ Some call
    → IsLive b.connection.received call
live_at b id call law found =
    subst (λ o. IfSome o (IsLive b.connection.received)) found
    (IfSome-lookup_from_All (IsLive b.connection.received) (nat_eq id) b.calls law.each)

weaker : (most more : ℕ) (calls : List Call) → most ≤ more → All (IsLive most) calls
    → All (IsLive more) calls
weaker most more calls le each =
    All-weaker (IsLive most) (IsLive more)
    (λ call live. record {
      counted = live.counted;
      within = omega (arith, live.within, le);
      all_returned = live.all_returned;
      one_end = live.one_end;
    }) calls each

-- the connection has other counts
pub connection-lawful : (b : Books) (connection : Counts) → IsLawful b → IsCounted connection
    → connection.received ≤ 4611686018427387904 → b.connection.received ≤ connection.received
    → (n : ℕ) → n ≡ unreturned connection → unreturned b.connection ≤ n
    → IsLawful (record b { connection = connection })
connection-lawful b connection law counted bounded more n is loose = record {
  counted = counted;
  bounded = bounded;
  each = weaker b.connection.received connection.received (values_of b.calls) more law.each;
  few = law.few;
  odd = law.odd;
  rising = law.rising;
  at_most_last = law.at_most_last;
  loose_fits = omega (arith, law.loose_fits, is, loose);
}

-- the connection has other counts, and so has a call
pub call-lawful : (b : Books) (id : ℕ) (old new : Call) (connection : Counts) → IsLawful b
    → call_at b id ≡ Some old
    → IsCounted connection → connection.received ≤ 4611686018427387904
    → b.connection.received ≤ connection.received
    → IsLive connection.received new
    → unreturned b.connection + unreturned new.counts
    ≤ unreturned connection + unreturned old.counts
    → IsLawful (record (with_call b id new) { connection = connection })
call-lawful b id old new connection law found counted bounded more live loose =
    let keys : keys_of (set_value (nat_eq id) b.calls new) ≡ keys_of b.calls =
    keys-set_value (nat_eq id) b.calls new in
    record {
      counted = counted;
      bounded = bounded;
      each = All-values-set_value (nat_eq id) (IsLive connection.received) b.calls new
          (weaker b.connection.received connection.received (values_of b.calls) more law.each) live;
      few = omega (arith, length-set_value (nat_eq id) b.calls new, law.few);
      odd = subst (All IsOdd) (sym keys) law.odd;
      rising = subst (AllPairs (λ key later. key < later)) (sym keys) law.rising;
      at_most_last = subst (All (λ key. key ≤ b.last)) (sym keys) law.at_most_last;
      loose_fits = omega (
        arith,
        sum_by-set_value (λ call. unreturned call.counts) (nat_eq id) b.calls old new found,
        law.loose_fits,
        loose,
      );
    }

length-removed : (test : ℕ → Bool) (es : List (ℕ × Call))
    → length (remove_entry test es) ≤ length es
length-removed test [] = omega arith
length-removed test (e ∷ es) = by (test e.0) (length-removed test es)
  where
    by : (b : Bool) → length (remove_entry test es) ≤ length es
        → length (cond b es (e ∷ remove_entry test es)) ≤ length (e ∷ es)
    by true rest = omega arith
    by false rest = omega (arith, rest)

pairs-tail : (x : ℕ) (xs : List ℕ) → AllPairs (λ key later. key < later) (x ∷ xs)
    → AllPairs (λ key later. key < later) xs
pairs-tail x xs all = λ i j d before within. all (suc i) (suc j) d (omega arith) (omega arith)

pairs-head : (x : ℕ) (xs : List ℕ) → AllPairs (λ key later. key < later) (x ∷ xs)
    → All (λ later. x < later) xs
pairs-head x xs all = λ j d within. all 0 (suc j) d (omega arith) (omega arith)

pairs-removed : (test : ℕ → Bool) (es : List (ℕ × Call))
    → AllPairs (λ key later. key < later) (keys_of es)
    → AllPairs (λ key later. key < later) (keys_of (remove_entry test es))
pairs-removed test [] all = all
pairs-removed test (e ∷ es) all =
    by (test e.0) (pairs-removed test es (pairs-tail e.0 (keys_of es) all))
  where
    by : (b : Bool) → AllPairs (λ key later. key < later) (keys_of (remove_entry test es))
        → AllPairs (λ key later. key < later) (keys_of (cond b es (e ∷ remove_entry test es)))
    by true rest = pairs-tail e.0 (keys_of es) all
    by false rest =
        AllPairs-cons (λ key later. key < later) e.0 (keys_of (remove_entry test es))
        (All-map-remove_entry test (λ (f : ℕ × Call). f.0) (λ later. e.0 < later) es
        (pairs-head e.0 (keys_of es) all))
        rest

-- the connection has other counts, and a call is no longer live
pub cut-lawful : (b : Books) (id : ℕ) (call : Call) (connection : Counts) → IsLawful b
    → call_at b id ≡ Some call
    → IsCounted connection → connection.received ≡ b.connection.received
    → unreturned b.connection ≤ unreturned connection + unreturned call.counts
    → IsLawful (record b { connection = connection; calls = remove_entry (nat_eq id) b.calls })
cut-lawful b id call connection law found counted same loose =
    let sum = sum_by-remove_entry (λ (c : Call). unreturned c.counts) (nat_eq id) b.calls in
    record {
      counted = counted;
      bounded = omega (arith, law.bounded, same);
      each =
          All-map-remove_entry (nat_eq id) (λ (e : ℕ × Call). e.1)
          (IsLive connection.received) b.calls
          (weaker b.connection.received connection.received (values_of b.calls)
          (omega (arith, same)) law.each);
      few = omega (arith, length-removed (nat_eq id) b.calls, law.few);
      odd = All-map-remove_entry (nat_eq id) (λ (e : ℕ × Call). e.0) IsOdd b.calls law.odd;
      rising = pairs-removed (nat_eq id) b.calls law.rising;
      at_most_last =
          All-map-remove_entry (nat_eq id) (λ (e : ℕ × Call). e.0) (λ key. key ≤ b.last)
          b.calls law.at_most_last;
      loose_fits = omega (arith, rw found at sum, law.loose_fits, loose);
    }

-- an id above the last one isn't live
pub absent : (es : List (ℕ × Call)) (id last : ℕ) → All (λ key. key ≤ last) (keys_of es) → last < id
    → lookup (nat_eq id) es ≡ None
absent [] id last most above = refl
absent (e ∷ es) id last most above =
    let low : e.0 ≤ last = most 0 e.0 (omega arith) in
    let apart : nat_eq id e.0 ≡ false = grind (arith, nat_tests) in
    rw apart (absent es id last (λ k d within. most (suc k) d (omega arith)) above)

keys-push : (es : List (ℕ × Call)) (id : ℕ) (call : Call)
    → keys_of (es ++ (id, call) ∷ []) ≡ keys_of es ++ id ∷ []
keys-push [] id call = refl
keys-push (e ∷ es) id call = rw (keys-push es id call) refl

values-push : (es : List (ℕ × Call)) (id : ℕ) (call : Call)
    → values_of (es ++ (id, call) ∷ []) ≡ values_of es ++ call ∷ []
values-push [] id call = refl
values-push (e ∷ es) id call = rw (values-push es id call) refl

-- one more call
pub admit-lawful : (b : Books) (id : ℕ) → IsLawful b → length b.calls < 64 → IsOdd id → b.last < id
    → IsLawful (after_admit b id)
admit-lawful b id law few odd above =
    let keys = keys-push b.calls id new_call in
    let values = values-push b.calls id new_call in
    record {
      counted = law.counted;
      bounded = law.bounded;
      each = subst (All (IsLive b.connection.received)) (sym values)
          (All-push (IsLive b.connection.received) (values_of b.calls) new_call law.each
          (record {
            counted = record {
              announced_within = omega arith;
              returned_within = omega arith;
              received_within = omega arith;
            };
            within = omega arith;
            all_returned = λ _. refl;
            one_end = refl;
          }));
      few = omega (arith, length-append b.calls ((id, new_call) ∷ []), few);
      odd = subst (All IsOdd) (sym keys) (All-push IsOdd (keys_of b.calls) id law.odd odd);
      rising = subst (AllPairs (λ key later. key < later)) (sym keys)
          (all_pairs_push (λ key later. key < later) (keys_of b.calls) id law.rising
          (λ k d within. omega (arith, law.at_most_last k d within, above)));
      at_most_last = subst (All (λ key. key ≤ id)) (sym keys)
          (All-push (λ key. key ≤ id) (keys_of b.calls) id
          (All-weaker (λ key. key ≤ b.last) (λ key. key ≤ id) (λ key low. omega (arith, low, above))
          (keys_of b.calls) law.at_most_last)
          (omega arith));
      loose_fits =
          subst (λ vs.
          sum_by (λ (call : Call). unreturned call.counts) vs
          ≤ unreturned b.connection) (sym values)
          (omega (
            arith,
            sum_by_push (λ (call : Call). unreturned call.counts) (values_of b.calls) new_call,
            law.loose_fits,
          ));
    }

-- and what ledgers see of it
pub admit-moves : (b : Books) (id : ℕ)
    → Moves (record (no_change b) { admitted = 1; last = id }) b (after_admit b id)
admit-moves b id = record {
  received = omega arith;
  announced = omega arith;
  live = omega (arith, length-append b.calls ((id, new_call) ∷ []));
  last = refl;
  closing = refl;
}

-- a live call hasn't returned more than the connection
pub unreturned_at : (b : Books) (id : ℕ) (call : Call) → IsLawful b → call_at b id ≡ Some call
    → unreturned call.counts ≤ unreturned b.connection
unreturned_at b id call law found =
    let sum = sum_by-remove_entry (λ (c : Call). unreturned c.counts) (nat_eq id) b.calls in
    omega (arith, rw found at sum, law.loose_fits)

-- where the other end is marked, a call that ends is cut
pub cut-is-end_remote : (b : Books) (id : ℕ) (call : Call) → call_at b id ≡ Some call
    → call.marks.local ≡ true → after_cut b id ≡ after_end_remote b id
cut-is-end_remote b id call found over = rw (found, over) refl

pub cut-is-end_local : (b : Books) (id : ℕ) (call : Call) → call_at b id ≡ Some call
    → call.marks.remote ≡ true → after_cut b id ≡ after_end_local b id
cut-is-end_local b id call found over = rw (found, over) refl

-- of a call of which an end is marked nothing is announced
pub announce-half_closed : (b : Books) (id : ℕ) (call : Call) → nat_eq id 0 ≡ false
    → call_at b id ≡ Some call → is_half_closed call ≡ true → after_announce b id ≡ b
announce-half_closed b id call other found over = rw (other, found, over) refl

-- bytes came on a call, and on the connection
pub receive-lawful : (b : Books) (id n : ℕ) (call : Call) → IsLawful b → call_at b id ≡ Some call
    → n ≤ (65535 + call.counts.announced) - call.counts.received
    → n ≤ min (65535 + b.connection.announced) 4611686018427387904 - b.connection.received
    → IsLawful (after_receive_on b id n call)
receive-lawful b id n call law found call_room connection_room = by call.marks.local refl
  where
    live : IsLive b.connection.received call
    live = live_at b id call law found

    in_call : call.counts.received + n ≤ 65535 + call.counts.announced
    in_call = omega (arith, call_room, live.counted.received_within)

    in_connection : b.connection.received + n ≤ 65535 + b.connection.announced
    in_connection = omega (arith, connection_room, law.counted.received_within, law.bounded)

    countable : b.connection.received + n ≤ 4611686018427387904
    countable = omega (arith, connection_room, law.counted.received_within, law.bounded)

    by : (at_once : Bool) → call.marks.local ≡ at_once
        → IsLawful
        (record (with_call b id (record call { counts = with_received call.counts n at_once }))
        { connection = with_received b.connection n at_once })
    by true is =
        call-lawful b id call (record call { counts = with_received call.counts n true })
        (with_received b.connection n true) law found
        (record {
          announced_within = omega (arith, law.counted.announced_within);
          returned_within = omega (arith, law.counted.returned_within);
          received_within = in_connection;
        })
        countable (omega arith)
        (record {
          counted = record {
            announced_within = omega (arith, live.counted.announced_within);
            returned_within = omega (arith, live.counted.returned_within);
            received_within = in_call;
          };
          within = omega (arith, live.within);
          all_returned = λ over. omega (arith, live.all_returned over);
          one_end = live.one_end;
        })
        (omega arith)
    by false is =
        call-lawful b id call (record call { counts = with_received call.counts n false })
        (with_received b.connection n false) law found
        (record {
          announced_within = law.counted.announced_within;
          returned_within = omega (arith, law.counted.returned_within);
          received_within = in_connection;
        })
        countable (omega arith)
        (record {
          counted = record {
            announced_within = live.counted.announced_within;
            returned_within = omega (arith, live.counted.returned_within);
            received_within = in_call;
          };
          within = omega (arith, live.within);
          all_returned = λ over. absurd (true≢false (sym over ∙ is));
          one_end = live.one_end;
        })
        (omega (arith, live.counted.returned_within, law.counted.returned_within))

-- bytes of a call were returned, and on the connection
pub give_back-lawful : (b : Books) (id n : ℕ) (call : Call) → IsLawful b → call_at b id ≡ Some call
    → n ≤ unreturned call.counts → IsLawful (after_give_back_on b id n call)
give_back-lawful b id n call law found room =
    let live = live_at b id call law found in
    let fits : call.counts.returned + n ≤ call.counts.received =
    omega (arith, room, live.counted.returned_within) in
    let less = unreturned_at b id call law found in
    call-lawful b id call (record call { counts = with_returned call.counts n })
    (with_returned b.connection n) law found
    (record {
      announced_within = omega (arith, law.counted.announced_within);
      returned_within = omega (arith, law.counted.returned_within, less, fits);
      received_within = law.counted.received_within;
    })
    law.bounded (omega arith)
    (record {
      counted = record {
        announced_within = omega (arith, live.counted.announced_within);
        returned_within = fits;
        received_within = live.counted.received_within;
      };
      within = live.within;
      all_returned = λ over. omega (arith, live.all_returned over, fits);
      one_end = live.one_end;
    })
    (omega (arith, fits, law.counted.returned_within, less))

-- what a call returned is announced
pub announce-lawful : (b : Books) (id : ℕ) (call : Call) → IsLawful b → call_at b id ≡ Some call
    → IsLawful (with_call b id (record call { counts = with_announced call.counts }))
announce-lawful b id call law found =
    let live = live_at b id call law found in
    call-lawful b id call (record call { counts = with_announced call.counts }) b.connection law
    found law.counted law.bounded (omega arith)
    (record {
      counted = record {
        announced_within = omega arith;
        returned_within = live.counted.returned_within;
        received_within =
            omega (arith, live.counted.announced_within, live.counted.received_within);
      };
      within = live.within;
      all_returned = live.all_returned;
      one_end = live.one_end;
    })
    (omega arith)

-- a call's remote end is marked
pub end_remote-lawful : (b : Books) (id : ℕ) (call : Call) → IsLawful b → call_at b id ≡ Some call
    → call.marks.local ≡ false
    → IsLawful (with_call b id (record call { marks = record call.marks { remote = true } }))
end_remote-lawful b id call law found open_here =
    let live = live_at b id call law found in
    call-lawful b id call (record call { marks = record call.marks { remote = true } }) b.connection
    law found law.counted law.bounded (omega arith)
    (record {
      counted = live.counted;
      within = live.within;
      all_returned = live.all_returned;
      one_end = open_here;
    })
    (omega arith)

-- a call's local end is marked
pub end_local-lawful : (b : Books) (id : ℕ) (call : Call) → IsLawful b → call_at b id ≡ Some call
    → call.marks.remote ≡ false
    → IsLawful (local_closed b id call)
end_local-lawful b id call law found open_there =
    let live = live_at b id call law found in
    let less = unreturned_at b id call law found in
    call-lawful b id call
    (record {
      counts = with_returned call.counts (unreturned call.counts);
      marks = record call.marks { local = true };
    })
    (with_returned b.connection (unreturned call.counts)) law found
    (record {
      announced_within = omega (arith, law.counted.announced_within);
      returned_within = omega (arith, law.counted.returned_within, less);
      received_within = law.counted.received_within;
    })
    law.bounded (omega arith)
    (record {
      counted = record {
        announced_within = omega (arith, live.counted.announced_within);
        returned_within = omega (arith, live.counted.returned_within);
        received_within = live.counted.received_within;
      };
      within = live.within;
      all_returned = λ over. omega (arith, live.counted.returned_within);
      one_end = rw open_there refl;
    })
    (omega (arith, law.counted.returned_within, less))

-- a call is no longer live
pub after_cut-lawful : (b : Books) (id : ℕ) (call : Call) → IsLawful b → call_at b id ≡ Some call
    → IsLawful (after_cut_on b id call)
after_cut-lawful b id call law found =
    let less = unreturned_at b id call law found in
    cut-lawful b id call (with_returned b.connection (unreturned call.counts)) law found
    (record {
      announced_within = omega (arith, law.counted.announced_within);
      returned_within = omega (arith, law.counted.returned_within, less);
      received_within = law.counted.received_within;
    })
    refl
    (omega (arith, law.counted.returned_within, less))
