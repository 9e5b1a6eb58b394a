-- Lists of steps that grow.
use Rattle.std.proofs.Common.{
  ◌≡◌,
  ℕ,
  ◌+◌,
  ◌≤◌,
  true,
  List,
  [],
  ◌∷◌,
  ◌++◌,
  length,
  refl,
  sym,
  ap,
  subst,
  ◌∙◌,
  arith,
  length-append,
  Option,
  None,
  Some,
}
use Rattle.std.proofs.lemmas.List.{append-nil}
use Rattle.std.specs.Option.{option_map}
use mathlib.Core.List.{IsPrefix}
use Rattle.lane.specs.Steps.{later, pieces, link, closed, ahead_of, after}
use Rattle.lane.specs.RingLane.{ahead_at}
use Rattle.lane.specs.declared.ring_lane.second.SecondOut.{SecondOut}
use Rattle.lane.specs.declared.ring_lane.step.FreshRing.{FreshRing}
use Rattle.lane.specs.declared.ring_lane.step.RingStep.{RingStep}
use Rattle.lane.specs.declared.ring_lane.step.RingStep.TheVariants.{Piece, Next}

abbrev pub links : {N : Type 0} → Option N → ℕ
links None = 0
links (Some next) = 1

later_links : {N : Type 0} (o : Option N) (next : N) → links (later o next) ≡ 1
later_links None next = refl
later_links (Some last) next = refl

later_some : {N : Type 0} (o : Option N) (next : N) → later o next ≡ None → ⊥
later_some None next e = absurd cc
later_some (Some last) next e = absurd cc

module _ {T : Type 0} where
  pub pieces-append : (xs ys : List (RingStep T)) → pieces (xs ++ ys) ≡ pieces xs ++ pieces ys
  pieces-append [] ys = refl
  pieces-append (Piece item ∷ xs) ys = ap (λ rest. item ∷ rest) (pieces-append xs ys)
  pieces-append (Next next ∷ xs) ys = pieces-append xs ys

  -- one more item
  pub record HasPiece (xs ys : List (RingStep T)) (item : T) : Type 0 where
    pub items : pieces ys ≡ pieces xs ++ item ∷ []
    pub way : link ys ≡ link xs
    pub len : length (pieces ys) ≡ length (pieces xs) + 1
    pub all : length ys ≡ length xs + 1

  link_piece : (xs : List (RingStep T)) (item : T) → link (xs ++ Piece item ∷ []) ≡ link xs
  link_piece [] item = refl
  link_piece (Piece x ∷ xs) item = link_piece xs item
  link_piece (Next x ∷ xs) item = ap (λ o. later o x) (link_piece xs item)

  pub push_piece : (xs ys : List (RingStep T)) (item : T) → ys ≡ xs ++ Piece item ∷ []
      → HasPiece xs ys item
  push_piece xs ys item more =
      let e : pieces ys ≡ pieces xs ++ item ∷ [] =
      ap (λ (us : List (RingStep T)). pieces us) more ∙ pieces-append xs (Piece item ∷ []) in
      record {
        items = e;
        way = ap (λ (us : List (RingStep T)). link us) more ∙ link_piece xs item;
        len = ap length e ∙ length-append (pieces xs) (item ∷ []);
        all = ap length more ∙ length-append xs (Piece item ∷ []);
      }

  closed_piece : (xs : List (RingStep T)) (item : T) → link xs ≡ None
      → closed (xs ++ Piece item ∷ []) ≡ true
  closed_piece [] item none = refl
  closed_piece (Piece x ∷ xs) item none = closed_piece xs item none
  closed_piece (Next x ∷ xs) item none = absurd (later_some (link xs) x none)

  pub stays_closed : (xs ys : List (RingStep T)) (item : T) → ys ≡ xs ++ Piece item ∷ []
      → link xs ≡ None → closed ys ≡ true
  stays_closed xs ys item more none =
      ap (λ (us : List (RingStep T)). closed us) more ∙ closed_piece xs item none

  -- the way on
  pub record HasNext (xs ys : List (RingStep T)) (next : FreshRing T) : Type 0 where
    pub items : pieces ys ≡ pieces xs
    pub way : link ys ≡ Some next
    pub all : length ys ≡ length xs + 1

  link_next : (xs : List (RingStep T)) (next : FreshRing T)
      → link (xs ++ Next next ∷ []) ≡ Some next
  link_next [] next = refl
  link_next (Piece x ∷ xs) next = link_next xs next
  link_next (Next x ∷ xs) next = ap (λ o. later o x) (link_next xs next)

  pub push_next : (xs ys : List (RingStep T)) (next : FreshRing T) → ys ≡ xs ++ Next next ∷ []
      → HasNext xs ys next
  push_next xs ys next more = record {
    items =
        ap (λ (us : List (RingStep T)). pieces us) more
        ∙ (pieces-append xs (Next next ∷ []) ∙ append-nil (pieces xs));
    way = ap (λ (us : List (RingStep T)). link us) more ∙ link_next xs next;
    all = ap length more ∙ length-append xs (Next next ∷ []);
  }

  closed_next : (xs : List (RingStep T)) (next : FreshRing T) → link xs ≡ None
      → closed (xs ++ Next next ∷ []) ≡ true
  closed_next [] next none = refl
  closed_next (Piece x ∷ xs) next none = closed_next xs next none
  closed_next (Next x ∷ xs) next none = absurd (later_some (link xs) x none)

  pub is_closed : (xs ys : List (RingStep T)) (next : FreshRing T) → ys ≡ xs ++ Next next ∷ []
      → link xs ≡ None → closed ys ≡ true
  is_closed xs ys next more none =
      ap (λ (us : List (RingStep T)). closed us) more ∙ closed_next xs next none

  -- a closed list has its items and one way on
  pub count_steps : (xs : List (RingStep T)) → closed xs ≡ true
      → length xs ≡ length (pieces xs) + links (link xs)
  count_steps [] is = refl
  count_steps (Piece x ∷ xs) is = let rest = count_steps xs is in omega arith
  count_steps (Next x ∷ []) is = refl
  count_steps (Next x ∷ y ∷ xs) is = absurd cc

  -- where the way on was taken, all was
  pub none_behind : (xs ys : List (RingStep T)) → closed (xs ++ ys) ≡ true
      → links (link xs) ≡ 1 → ys ≡ []
  none_behind [] ys is one = absurd (omega arith)
  none_behind (Piece x ∷ xs) ys is one = none_behind xs ys is one
  none_behind (Next x ∷ []) [] is one = refl
  none_behind (Next x ∷ []) (y ∷ ys) is one = absurd cc
  none_behind (Next x ∷ z ∷ xs) ys is one = absurd cc

  closed_front : (xs ys : List (RingStep T)) → closed (xs ++ ys) ≡ true → closed xs ≡ true
  closed_front [] ys is = refl
  closed_front (Piece x ∷ xs) ys is = closed_front xs ys is
  closed_front (Next x ∷ []) ys is = refl
  closed_front (Next x ∷ z ∷ xs) ys is = absurd cc

  link_front : (xs ys : List (RingStep T)) → links (link xs) ≤ links (link (xs ++ ys))
  link_front [] ys = omega arith
  link_front (Piece x ∷ xs) ys = link_front xs ys
  link_front (Next x ∷ xs) ys =
      omega (arith, later_links (link xs) x, later_links (link (xs ++ ys)) x)

  -- what was taken of a ring, what is in it, and all that was put into it
  pub record Together (taken here put : List (RingStep T)) : Type 0 where
    pub begins : IsPrefix (pieces taken) (pieces put)
    pub all : length put ≡ length taken + length here
    pub items_put : length put ≡ length (pieces put) + links (link put)
    pub items_taken : length taken ≡ length (pieces taken) + links (link taken)
    pub less : links (link taken) ≤ links (link put)
    pub whole : links (link taken) ≡ 1 → taken ≡ put

  pub together : (taken here put : List (RingStep T)) → taken ++ here ≡ put → closed put ≡ true
      → Together taken here put
  together taken here put is shut =
      let shut_all : closed (taken ++ here) ≡ true =
      ap (λ (us : List (RingStep T)). closed us) is ∙ shut in
      record {
        begins = (
          pieces here,
          sym (pieces-append taken here) ∙ ap (λ (us : List (RingStep T)). pieces us) is,
        );
        all = ap length (sym is) ∙ length-append taken here;
        items_put = count_steps put shut;
        items_taken = count_steps taken (closed_front taken here shut_all);
        less = subst (λ us. links (link taken) ≤ links (link us)) is (link_front taken here);
        whole = λ one.
            sym (append-nil taken)
            ∙ (ap (λ us. taken ++ us) (sym (none_behind taken here shut_all one)) ∙ is);
      }

  snoc_append : (xs ys : List (RingStep T)) (x : RingStep T) → (xs ++ x ∷ []) ++ ys ≡ xs ++ x ∷ ys
  snoc_append [] ys x = refl
  snoc_append (y ∷ xs) ys x = ap (λ us. y ∷ us) (snoc_append xs ys x)

  -- one step more is taken
  pub shifted : (xs ys known rest all : List (RingStep T)) (x : RingStep T) → ys ≡ xs ++ x ∷ []
      → known ≡ x ∷ rest → xs ++ known ≡ all → ys ++ rest ≡ all
  shifted xs ys known rest all x more is joined =
      ap (λ us. us ++ rest) more ∙ (snoc_append xs rest x ∙ (ap (λ us. xs ++ us) (sym is) ∙ joined))

  pub after_link : {O : Type 0} (out_of : FreshRing T → O) (xs ys : List (RingStep T))
      (step : RingStep T)
      (found : Option O)
      → ys ≡ xs ++ step ∷ []
      → found ≡ option_map out_of (link xs) → after out_of step found ≡ option_map out_of (link ys)
  after_link out_of xs ys (Piece item) found more is =
      is ∙ ap (λ o. option_map out_of o) (sym (push_piece xs ys item more).way)
  after_link out_of xs ys (Next next) found more is =
      ap (λ o. option_map out_of o) (sym (push_next xs ys next more).way)

-- ---- what is ahead

module _ {T : Type 0} where
  pub ahead_piece : (next : Option (SecondOut T)) (known new : List (RingStep T)) (item : T)
      → next ≡ None → known ≡ Piece item ∷ new → ahead_at next known ≡ item ∷ ahead_at next new
  ahead_piece None known new item none is = ap (λ us. ahead_of us) is
  ahead_piece (Some out) known new item none is = absurd cc

  pub ahead_next : (next : Option (SecondOut T)) (known new : List (RingStep T))
      (fresh : FreshRing T)
      → next ≡ None → known ≡ Next fresh ∷ new → ahead_at next known ≡ []
  ahead_next None known new fresh none is = ap (λ us. ahead_of us) is
  ahead_next (Some out) known new fresh none is = absurd cc

  -- before the way on, all that is in the ring is ahead
  ahead_pieces : (known : List (RingStep T)) → closed known ≡ true → ahead_of known ≡ pieces known
  ahead_pieces [] is = refl
  ahead_pieces (Piece item ∷ known) is = ap (λ us. item ∷ us) (ahead_pieces known is)
  ahead_pieces (Next next ∷ []) is = refl
  ahead_pieces (Next next ∷ step ∷ known) is = absurd cc

-- ---- what is in the ring, where the way on was not taken

module _ {T : Type 0} where
  closed_back : (xs ys : List (RingStep T)) → closed (xs ++ ys) ≡ true → closed ys ≡ true
  closed_back [] ys is = is
  closed_back (Piece x ∷ xs) ys is = closed_back xs ys is
  closed_back (Next x ∷ []) [] is = refl
  closed_back (Next x ∷ []) (y ∷ ys) is = absurd cc
  closed_back (Next x ∷ z ∷ xs) ys is = absurd cc

  link_back : (xs ys : List (RingStep T)) → link xs ≡ None → link (xs ++ ys) ≡ link ys
  link_back [] ys none = refl
  link_back (Piece x ∷ xs) ys none = link_back xs ys none
  link_back (Next x ∷ xs) ys none = absurd (later_some (link xs) x none)

  pub record Here (taken here put : List (RingStep T)) : Type 0 where
    pub items : pieces taken ++ ahead_of here ≡ pieces put
    pub count : length here ≡ length (ahead_of here) + links (link put)
    pub less : length (pieces taken) ≤ length (pieces put)
    pub some : length (pieces taken) ≤ length taken

  pub here_of : (taken here put : List (RingStep T)) → taken ++ here ≡ put → closed put ≡ true
      → link taken ≡ None → Here taken here put
  here_of taken here put is shut none =
      let shut_all : closed (taken ++ here) ≡ true =
      ap (λ (us : List (RingStep T)). closed us) is ∙ shut in
      let shut_here = closed_back taken here shut_all in
      let ahead = ahead_pieces here shut_here in
      let same : link here ≡ link put =
      sym (link_back taken here none) ∙ ap (λ (us : List (RingStep T)). link us) is in
      let items : pieces taken ++ ahead_of here ≡ pieces put =
      ap (λ us. pieces taken ++ us) ahead
      ∙ (sym (pieces-append taken here) ∙ ap (λ (us : List (RingStep T)). pieces us) is) in
      let long = count_steps here shut_here in
      let links_same = ap links same in
      let len = ap length ahead in
      let all = ap length items in
      let sum = length-append (pieces taken) (ahead_of here) in
      let front = count_steps taken (closed_front taken here shut_all) in
      record { items = items; count = omega arith; less = omega arith; some = omega arith }

  -- an item that is all that is in the ring is no way on
  pub no_way : (taken known rest : List (RingStep T)) (item : T) → known ≡ Piece item ∷ rest
      → length known ≡ 1 → link taken ≡ None → link (taken ++ known) ≡ None
  no_way taken known [] item is one none =
      link_back taken known none ∙ ap (λ (us : List (RingStep T)). link us) is
  no_way taken known (step ∷ rest) item is one none =
      let long = ap length is in
      absurd (omega arith)

  pub ahead_first : (next : Option (SecondOut T)) (known : List (RingStep T)) → next ≡ None
      → ahead_at next known ≡ ahead_of known
  ahead_first None known none = refl
  ahead_first (Some out) known none = absurd cc
