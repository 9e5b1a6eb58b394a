-- What a call more, and one that is settled, make of all calls of a connection.
use Rattle.std.proofs.Common.{
  ◌≡◌,
  ◌∙◌,
  inl,
  inr,
  ℕ,
  ◌<◌,
  Bool,
  true,
  false,
  true≢false,
  nat_eq,
  List,
  [],
  ◌∷◌,
  ◌++◌,
  All,
  Option,
  None,
  Some,
  ap,
  append-nil,
  arith,
  eq-eqb,
  eqb-true,
  get_or,
  length,
  map,
  refl,
  set,
  subst,
  sym,
}
use Rattle.std.specs.Prelude.{◌&&◌, Contains, if◌then◌else◌, is_none, slice_get}
use Rattle.std.specs.List.{IsDistinct, list_any, swap_remove}
use Rattle.std.specs.List.Sorted.{IsPermutation}
use Rattle.std.proofs.lemmas.Bool.{ne_eqb}
use Rattle.std.proofs.lemmas.List.{
  get_or-map,
  get_or_append_left,
  get_or_push,
  length-map,
  length_push,
  map-append,
}
use Rattle.std.proofs.lemmas.List.Elements.{
  All-head,
  All-push,
  All-tail,
  All-weaker,
  Contains-append_left,
  Contains-push,
}
use Rattle.std.proofs.lemmas.List.Sorted.{
  All-permutation,
  Contains-permutation,
  IsPermutation-map,
  IsPermutation-swap_remove,
}
use Rattle.std.proofs.lemmas.Map.Keys.{IsDistinct-IsPermutation, IsDistinct-tail}
use Rattle.std.proofs.lemmas.Map.Made.{Contains-tail}
use Rattle.std.proofs.lemmas.Option.{get_or_from_slice_get, slice_get-get_or, slice_get_within}
use Rattle.std.proofs.Math.Seq.{map-set_same}
use Rattle.account.specs.declared.call.OutItem.{OutItem}
use Rattle.callhead.specs.declared.head.CallHead.{CallHead}
use Rattle.callparts.specs.declared.call_account.CallAccount.{CallAccount}
use Rattle.callparts.specs.declared.register.Naming.{Ghosts}
use Rattle.callparts.specs.Accounts.{unserved}
use Rattle.handlers.specs.declared.step.MethodStep.{MethodStep as Answer}
use Rattle.session.specs.declared.event.InEvent.TheVariants as events
use Rattle.readerloop.specs.declared.call.Call.{Call}
use Rattle.readerloop.specs.Calls.{IsCall, Rises, is_admitted}
use Rattle.readerloop.specs.declared.calls.Calls.{Calls}
use Rattle.readerloop.specs.declared.feeder_half.FeederHalf.{FeederHalf}
use Rattle.readerloop.specs.declared.feeder_half.FeederHalf.TheVariants.{
  Open,
  Shut as ShutHalf,
  Missed,
  Moving,
}
use Rattle.readerloop.specs.Kept.{
  AreKept,
  IsFresh,
  IsSoFar,
  Kept,
  accounts_of,
  fed_in,
  ids_of,
  unsettled,
}
use Rattle.readerloop.specs.Halves.{is_open, shown}
use Rattle.readerloop.specs.Orders.{greatest, is_fed}
use Rattle.readerloop.specs.Reports.{AreAccounts, IsAccounted, IsSettled}
use Rattle.readerloop.specs.Steps.{
  AdmitsNoMore,
  Closing,
  Lack,
  Step,
  Told,
  Unserved,
  admitted,
  admitted_by,
  closing_by,
  is_draining,
  last_of,
  reported,
  since,
}
use Rattle.readerloop.proofs.AccountSteps.{accounted-step}
use Rattle.readerloop.proofs.CallSteps.{call-opens, call-passes, opening}
use Rattle.readerloop.proofs.KeptLemmas.{known-below}
use Rattle.readerloop.proofs.KeptSteps.{
  greatest-above,
  below-greatest,
  distinct-push,
  same-place,
  set-each,
  ids,
}

-- ---- a call more, and one that is settled

reported-at : (accounts : List CallAccount) (ids : List ℕ) (n : ℕ) (d : CallAccount)
    → map (λ (account : CallAccount). account.id) accounts ≡ ids → n < length accounts
    → get_or ids n 0 ≡ (get_or accounts n d).id
reported-at accounts ids n d streams within =
    ap (λ (found : List ℕ). get_or found n 0) (sym streams)
    ∙ get_or-map (λ (account : CallAccount). account.id) accounts n d 0 within

reported-length : (accounts : List CallAccount) (ids : List ℕ)
    → map (λ (account : CallAccount). account.id) accounts ≡ ids → length ids ≡ length accounts
reported-length accounts ids streams =
    ap length (sym streams) ∙ length-map accounts (λ (account : CallAccount). account.id)

get-left : (ids : List ℕ) (id n x : ℕ) → slice_get ids n ≡ Some x
    → slice_get (ids ++ id ∷ []) n ≡ Some x
get-left ids id n x found =
    let within = slice_get_within ids n x found in
    slice_get-get_or (ids ++ id ∷ []) n 0 (omega (arith, within, length_push ids id))
    ∙ ap (λ (m : ℕ). Some m)
    (get_or_append_left ids (id ∷ []) 0 n within ∙ get_or_from_slice_get ids n x 0 found)

get-last : (ids : List ℕ) (id n : ℕ) → n ≡ length ids → slice_get (ids ++ id ∷ []) n ≡ Some id
get-last ids id n is =
    slice_get-get_or (ids ++ id ∷ []) n 0 (omega (arith, is, length_push ids id))
    ∙ ap (λ (m : ℕ). Some m) (get_or_push ids id 0 n (sym is))

module _ {J : Type 0} {book : Ghosts J} {known : ℕ → List (List ℕ) → Bool → Answer → Type 0}
    {names : List ℕ → ℕ → Type 0} {carries : ℕ → List OutItem → Type 0} where
  module _ (told : List Step) (calls : List (Call J book)) (accounts : List CallAccount)
      (last id : ℕ) (above : last < id) (going : is_draining told ≡ false)
      (k : AreKept known names carries told calls accounts last) where
    all-below : All (λ (other : ℕ). other < id) (reported told)
    all-below n d within =
        let low = below-greatest (reported told) n d within in
        let top = k.top in
        omega (arith, low, top, above)

    account-below : (n : ℕ) (d : CallAccount) → n < length accounts → (get_or accounts n d).id < id
    account-below n d within =
        let same = reported-at accounts (reported told) n d k.streams within in
        let low =
        all-below n 0 (omega (arith, within, reported-length accounts (reported told) k.streams)) in
        omega (arith, low, same)

    call-below : (n : ℕ) (d : Call J book) → n < length calls → (get_or calls n d).id < id
    call-below n d within =
        let low = (k.each n d within).within in
        let top = k.last_is in
        omega (arith, low, top, above)

    ids-below : All (λ (other : ℕ). other < id) (ids_of calls)
    ids-below n d within =
        let inside : n < length calls =
        omega (arith, within, length-map calls (λ (call : Call J book). call.id)) in
        by calls n d inside call-below
      where
        by : (cs : List (Call J book)) (n d : ℕ) → n < length cs
            → ((m : ℕ) (e : Call J book) → m < length cs → (get_or cs m e).id < id)
            → get_or (ids_of cs) n d < id
        by [] n d inside each = absurd (omega (arith, inside))
        by (call ∷ cs) n d inside each =
            let same = get_or-map (λ (c : Call J book). c.id) (call ∷ cs) n call d inside in
            let low = each n call inside in
            omega (arith, same, low)

    top-more : id ≡ greatest (reported told ++ id ∷ [])
    top-more =
        let top = k.top in
        sym (greatest-above (reported told) id (omega (arith, top, above)))

    streams-more : (account : CallAccount) → account.id ≡ id
        → map (λ (a : CallAccount). a.id) (accounts ++ account ∷ []) ≡ reported told ++ id ∷ []
    streams-more account same =
        map-append (λ (a : CallAccount). a.id) accounts (account ∷ [])
        ∙ (ap (λ (found : List ℕ). found ++ account.id ∷ []) k.streams
        ∙ ap (λ (n : ℕ). reported told ++ n ∷ []) same)

    closed-more : (step : Step) → AdmitsNoMore (step ∷ told)
    closed-more step = (λ draining. absurd (true≢false (sym draining ∙ going)), k.closed)

    so-far-more : (step : Step) (new : List (Call J book)) → Rises told step
        → ((other : ℕ) → admitted_by step ≡ Some other → other ≡ id)
        → ((other : ℕ) → Contains (ids_of calls) other → Contains (ids_of new) other)
        → All (IsSoFar known names carries (step ∷ told) new) accounts
    so-far-more step new rises one more n d within =
        let account = get_or accounts n d in
        let low = account-below n d within in
        elim (k.so_far n d within) [
          | inl is ↦
              inl (accounted-step told step account k.rising rises
              (λ other some. let same = one other some in omega (arith, low, same)) is)
          | inr there ↦ inr (more account.id there)
        ]

  -- a call was admitted, and a worker serves it
  pub kept-add : (told : List Step) (calls : List (Call J book)) (accounts : List CallAccount)
      (last : ℕ) (call : Call J book) (head : CallHead)
      → last < call.id → call.place ≡ length accounts → is_draining told ≡ false
      → IsFresh names head call → AreKept known names carries told calls accounts last
      → AreKept known names carries (opening call.id head ∷ told) (calls ++ call ∷ [])
      (accounts ++ unserved call.id call.method ∷ []) call.id
  kept-add told calls accounts last call head above place going fresh k =
      let pushed : ids_of (calls ++ call ∷ []) ≡ ids_of calls ++ call.id ∷ [] =
      map-append (λ (c : Call J book). c.id) calls (call ∷ []) in
      let rises : last_of told < call.id = let low = k.last_is in omega (arith, low, above) in
      record {
        rising = (rises, k.rising);
        last_is = omega arith;
        top = top-more told calls accounts last call.id above going k;
        closed = closed-more told calls accounts last call.id above going k (opening call.id head);
        once =
            distinct-push (reported told) call.id
            (all-below told calls accounts last call.id above going k) k.once;
        streams =
            streams-more told calls accounts last call.id above going k
            (unserved call.id call.method) refl;
        so_far =
            All-push (IsSoFar known names carries (opening call.id head ∷ told)
            (calls ++ call ∷ [])) accounts (unserved call.id call.method)
            (so-far-more told calls accounts last call.id above going k (opening call.id head)
            (calls ++ call ∷ []) rises (λ other some. same-some call.id other some)
            (λ other there.
            subst (λ (found : List ℕ). Contains found other) (sym pushed)
            (Contains-append_left (ids_of calls) (call.id ∷ []) other there)))
            (inr (subst (λ (found : List ℕ). Contains found call.id) (sym pushed)
            (Contains-push (ids_of calls) call.id)));
        each = All-push (IsCall known names carries (opening call.id head ∷ told)) calls call
            (All-weaker (IsCall known names carries told)
            (IsCall known names carries (opening call.id head ∷ told))
            (λ other is.
            call-passes told (opening call.id head) other rises
            (record { closes = refl; feeds = refl }) is) calls k.each)
            (call-opens told head call fresh);
        placed =
            All-push (λ (c : Call J book).
            slice_get (reported told ++ call.id ∷ []) c.place ≡ Some c.id) calls call
            (All-weaker (λ (c : Call J book). slice_get (reported told) c.place ≡ Some c.id)
            (λ (c : Call J book). slice_get (reported told ++ call.id ∷ []) c.place ≡ Some c.id)
            (λ other at. get-left (reported told) call.id other.place other.id at) calls k.placed)
            (get-last (reported told) call.id call.place
            (place ∙ sym (reported-length accounts (reported told) k.streams)));
        apart =
            subst (λ (found : List ℕ). IsDistinct nat_eq found) (sym pushed) (distinct-push
            (ids_of calls) call.id
            (ids-below told calls accounts last call.id above going k) k.apart);
      }
    where
      same-some : (x y : ℕ) → Some x ≡ Some y → y ≡ x
      same-some x y same = cc

  -- and none does
  pub kept-pass : (told : List Step) (calls : List (Call J book)) (accounts : List CallAccount)
      (last id method : ℕ) (head : CallHead) (why : Lack)
      → last < id → is_draining told ≡ false
      → names head.path method → AreKept known names carries told calls accounts last
      → AreKept known names carries (Told (events.Open id head) (Unserved why) ∷ told) calls
      (accounts ++ unserved id method ∷ []) id
  kept-pass told calls accounts last id method head why above going named k =
      let step = Told (events.Open id head) (Unserved why) in
      let low : last_of told < id = let top = k.last_is in omega (arith, top, above) in
      let same : admitted (step ∷ told) ≡ admitted told = append-nil (admitted told) in
      let apart : is_admitted id (step ∷ told) ≡ false =
      ap (λ (found : List ℕ). list_any (nat_eq id) found) same
      ∙ unknown (is_admitted id told) refl low in
      record {
        rising = (tt, k.rising);
        last_is = let top = k.last_is in omega (arith, top, above);
        top = top-more told calls accounts last id above going k;
        closed = closed-more told calls accounts last id above going k step;
        once =
            distinct-push (reported told) id
            (all-below told calls accounts last id above going k) k.once;
        streams = streams-more told calls accounts last id above going k (unserved id method) refl;
        so_far =
            All-push (IsSoFar known names carries (step ∷ told) calls) accounts (unserved id method)
            (so-far-more told calls accounts last id above going k step calls tt
            (λ other some. none-some other some) (λ other there. there))
            (inl (inr (record {
              head = head;
              apart = apart;
              opened = (told, [], why, refl);
              named = named;
              bare = refl;
            })));
        each =
            All-weaker (IsCall known names carries told) (IsCall known names carries (step ∷ told))
            (λ call is. call-passes told step call tt (record { closes = refl; feeds = refl }) is)
            calls k.each;
        placed =
            All-weaker (λ (c : Call J book). slice_get (reported told) c.place ≡ Some c.id)
            (λ (c : Call J book). slice_get (reported told ++ id ∷ []) c.place ≡ Some c.id)
            (λ call at. get-left (reported told) id call.place call.id at) calls k.placed;
        apart = k.apart;
      }
    where
      none-some : (other : ℕ) → None ≡ Some other → other ≡ id
      none-some other same = absurd cc

      unknown : (found : Bool) → is_admitted id told ≡ found → last_of told < id
          → is_admitted id told ≡ false
      unknown true is low =
          let high = known-below told k.rising id is in
          absurd (omega (arith, low, high))
      unknown false is low = is

  -- a call is settled
  pub kept-settle : (told : List Step) (calls rest : List (Call J book))
      (accounts : List CallAccount) (last place : ℕ) (call : Call J book) (account : CallAccount)
      → place < length calls → call ≡ get_or calls place call
      → rest ≡ swap_remove calls place call → account.id ≡ call.id
      → (IsCall known names carries told call → IsSettled known names carries told account)
      → AreKept known names carries told calls accounts last
      → AreKept known names carries told rest (set accounts call.place account) last
  kept-settle told calls rest accounts last place call account there is gone same_id settles k =
      let moves : IsPermutation calls (call ∷ rest) =
      subst (λ (found : List (Call J book)). IsPermutation calls (call ∷ found)) (sym gone)
      (IsPermutation-swap_remove calls place call there is) in
      let each =
      All-permutation (IsCall known names carries told) calls (call ∷ rest) moves k.each in
      let placed =
      All-permutation (λ (c : Call J book). slice_get (reported told) c.place ≡ Some c.id) calls
      (call ∷ rest) moves k.placed in
      let here : slice_get (reported told) call.place ≡ Some call.id =
      All-head (λ (c : Call J book). slice_get (reported told) c.place ≡ Some c.id)
      call rest placed in
      let long = reported-length accounts (reported told) k.streams in
      let within : call.place < length accounts =
      let inside = slice_get_within (reported told) call.place call.id here in
      omega (arith, inside, long) in
      let named_there : get_or (reported told) call.place 0 ≡ call.id =
      get_or_from_slice_get (reported told) call.place call.id 0 here in
      let id_moves : IsPermutation (ids_of calls) (call.id ∷ ids_of rest) =
      IsPermutation-map (λ (c : Call J book). c.id) calls (call ∷ rest) moves in
      record {
        rising = k.rising;
        last_is = k.last_is;
        top = k.top;
        closed = k.closed;
        once = k.once;
        streams = map-set_same (λ (a : CallAccount). a.id) accounts call.place account account
            (same_id ∙ sym named_there
            ∙ reported-at accounts (reported told) call.place account k.streams within)
            ∙ k.streams;
        so_far =
            set-each (IsSoFar known names carries told calls)
            (IsSoFar known names carries told rest) accounts call.place account within
            (inl (inl (settles (All-head (IsCall known names carries told) call rest each))))
            (λ n d inside away so_far. elim so_far [
              | inl final ↦ inl final
              | inr among ↦
                  let one = get_or accounts n d in
                  inr (Contains-tail call.id (ids_of rest) one.id
                  (λ same.
                  away (same-place (reported told) n call.place 0 k.once
                  (omega (arith, inside, long)) (omega (arith, within, long))
                  (reported-at accounts (reported told) n d k.streams inside
                  ∙ (sym same ∙ sym named_there))))
                  (Contains-permutation (ids_of calls) (call.id ∷ ids_of rest)
                  one.id id_moves among))
            ]) k.so_far;
        each = All-tail (IsCall known names carries told) call rest each;
        placed =
            All-tail (λ (c : Call J book).
            slice_get (reported told) c.place ≡ Some c.id) call rest placed;
        apart =
            IsDistinct-tail nat_eq call.id (ids_of rest) (IsDistinct-IsPermutation nat_eq
            (λ x y. flips x y) (ids_of calls) (call.id ∷ ids_of rest) id_moves k.apart);
      }
    where
      flips : (x y : ℕ) → nat_eq x y ≡ nat_eq y x
      flips x y = by (nat_eq x y) refl
        where
          by : (found : Bool) → nat_eq x y ≡ found → nat_eq x y ≡ nat_eq y x
          by true here = here ∙ sym (eq-eqb y x (sym (eqb-true x y here)))
          by false other =
              other ∙ sym (ne_eqb y x (λ same. true≢false (sym (eq-eqb x y (sym same)) ∙ other)))

module _ {J : Type 0} {book : Ghosts J} {known : ℕ → List (List ℕ) → Bool → Answer → Type 0}
    {names : List ℕ → ℕ → Type 0} {carries : ℕ → List OutItem → Type 0} where
  -- calls of which nothing is changed that is spoken of
  pub kept-same : (told : List Step) (old new : Calls J book) → unsettled new ≡ unsettled old
      → accounts_of new ≡ accounts_of old → new.last ≡ old.last → Kept known names carries told old
      → Kept known names carries told new
  kept-same told old new calls accounts last k =
      subst (λ (found : List (Call J book)).
      AreKept known names carries told found (accounts_of new) new.last) (sym calls)
      (subst (λ (found : List CallAccount).
      AreKept known names carries told (unsettled old) found new.last) (sym accounts)
      (subst (λ (n : ℕ). AreKept known names carries told (unsettled old) (accounts_of old) n)
      (sym last) k))

open-unclosed : (half : FeederHalf) → is_open half ≡ true → is_none (shown half).closing ≡ true
open-unclosed (Open feeder) is = refl
open-unclosed (ShutHalf end) is = absurd cc
open-unclosed (Missed feeder) is = absurd cc
open-unclosed Moving is = absurd cc

module _ {J : Type 0} {book : Ghosts J} {known : ℕ → List (List ℕ) → Bool → Answer → Type 0}
    {names : List ℕ → ℕ → Type 0} {carries : ℕ → List OutItem → Type 0} where
  -- more may be fed to a call whose half is open
  pub call-fed : (told : List Step) (call : Call J book) → is_open call.half ≡ true
      → IsCall known names carries told call → is_fed call.id told ≡ true
  call-fed told call unclosed is =
      let none : is_none (closing_by call.id (since call.id told)) ≡ true =
      ap (λ (found : Option Closing). is_none found) (sym is.fed.closing)
      ∙ open-unclosed call.half unclosed in
      ap (λ (b : Bool). b && is_none (closing_by call.id (since call.id told))) is.known_id ∙ none

  pub found-fed : (told : List Step) (calls : List (Call J book)) (accounts : List CallAccount)
      (last place id : ℕ) (call : Call J book)
      → place < length calls → call ≡ get_or calls place call → call.id ≡ id
      → is_open call.half ≡ true → AreKept known names carries told calls accounts last
      → is_fed id told ≡ true
  found-fed told calls accounts last place id call there is of unclosed k =
      subst (λ (n : ℕ). is_fed n told ≡ true) of
      (call-fed told call unclosed (subst (λ (c : Call J book). IsCall known names carries told c)
      (sym is) (k.each place call there)))

  -- so it is of the call at a place
  pub fed-at : (told : List Step) (calls : List (Call J book)) (accounts : List CallAccount)
      (last place id : ℕ)
      → fed_in (slice_get calls place) ≡ Some id
      → AreKept known names carries told calls accounts last → is_fed id told ≡ true
  fed-at told calls accounts last place id at k = by (slice_get calls place) refl at
    where
      by-half : (call : Call J book) (found : Bool) → is_open call.half ≡ found
          → slice_get calls place ≡ Some call → (if found then Some call.id else None) ≡ Some id
          → is_fed id told ≡ true
      by-half call true unclosed there is =
          let within = slice_get_within calls place call there in
          let same = get_or_from_slice_get calls place call call there in
          found-fed told calls accounts last place id call within (sym same)
          (let ids : call.id ≡ id = cc in ids) unclosed k
      by-half call false unclosed there is = absurd cc

      by : (found : Option (Call J book)) → slice_get calls place ≡ found → fed_in found ≡ Some id
          → is_fed id told ≡ true
      by None there is = absurd cc
      by (Some call) there is = by-half call (is_open call.half) refl there is

  pub kept-as : (told : List Step) (calls new_calls : List (Call J book))
      (accounts new_accounts : List CallAccount) (last new_last : ℕ)
      → new_calls ≡ calls → new_accounts ≡ accounts → new_last ≡ last
      → AreKept known names carries told calls accounts last
      → AreKept known names carries told new_calls new_accounts new_last
  kept-as told calls new_calls accounts new_accounts last new_last same_calls
      same_accounts same_last k =
      subst (λ (found : List (Call J book)).
      AreKept known names carries told found new_accounts new_last) (sym same_calls)
      (subst (λ (found : List CallAccount). AreKept known names carries told calls found new_last)
      (sym same_accounts)
      (subst (λ (n : ℕ). AreKept known names carries told calls accounts n) (sym same_last) k))

  -- the call at a place is what the steps make of it
  pub found-call : (told : List Step) (calls : List (Call J book)) (accounts : List CallAccount)
      (last place : ℕ) (call : Call J book)
      → place < length calls → call ≡ get_or calls place call
      → AreKept known names carries told calls accounts last → IsCall known names carries told call
  found-call told calls accounts last place call there is k =
      subst (λ (c : Call J book). IsCall known names carries told c) (sym is)
      (k.each place call there)

  -- where each call is settled all accounts are final
  pub all-accounted : (told : List Step) (calls : List (Call J book))
      (accounts : List CallAccount) (last : ℕ)
      → calls ≡ [] → AreKept known names carries told calls accounts last
      → AreAccounts known names carries told (reported told) accounts
  all-accounted told calls accounts last none k = record {
    each =
        All-weaker (IsSoFar known names carries told calls) (IsAccounted known names carries told)
        (λ account so_far. elim so_far [
          | inl is ↦ is
          | inr there ↦
              absurd (empty account.id (subst
              (λ (found : List (Call J book)). Contains (ids_of found) account.id) none there))
        ]) accounts k.so_far;
    streams = k.streams;
  }
    where
      empty : (id : ℕ) → Contains [] id → ⊥
      empty id (n, within, at) = omega (arith, within)

  -- so it is of calls of which one is taken out, whose account is then set
  pub kept-settled : (told : List Step) (old new : Calls J book) (place : ℕ) (call : Call J book)
      (account : CallAccount)
      → place < length (unsettled old) → call ≡ get_or (unsettled old) place call
      → unsettled new ≡ swap_remove (unsettled old) place call
      → accounts_of new ≡ set (accounts_of old) call.place account → new.last ≡ old.last
      → account.id ≡ call.id
      → (IsCall known names carries told call → IsSettled known names carries told account)
      → Kept known names carries told old → Kept known names carries told new
  kept-settled told old new place call account there is rest put last same_id settles k =
      kept-as told (swap_remove (unsettled old) place call) (unsettled new)
      (set (accounts_of old) call.place account) (accounts_of new) old.last new.last rest put last
      (kept-settle told (unsettled old) (swap_remove (unsettled old) place call) (accounts_of old)
      old.last place call account there is refl same_id settles k)

module _ {J : Type 0} {book : Ghosts J} where
  abbrev pub last_in : Calls J book → ℕ
  last_in calls = calls.last
