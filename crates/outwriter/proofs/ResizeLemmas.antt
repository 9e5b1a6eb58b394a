-- Initial windows one behind another.
use Rattle.std.proofs.Common.{
  ◌≡◌,
  ℕ,
  ◌≤◌,
  ◌<◌,
  ◌+◌,
  ◌⊎◌,
  inl,
  inr,
  refl,
  sym,
  ap,
  subst,
  ◌∙◌,
  List,
  [],
  ◌∷◌,
  ◌++◌,
  map,
  take,
  length,
  get_or,
  Option,
  Some,
  None,
  arith,
  ℤ,
  pos,
  ◌+ℤ◌,
}
use Rattle.std.specs.Prelude.{max, reverse, All, Contains, IfSome}
use Rattle.std.proofs.lemmas.Grind.{flat_map-append}
use Rattle.std.proofs.lemmas.Int.{ints}
use Rattle.std.proofs.lemmas.List.{append-nil, reverse-append, take_more}
use Rattle.std.proofs.lemmas.List.Elements.{
  All-nil,
  All-push,
  All-weaker,
  All-contains,
  Contains-push,
  Contains-append_left,
}
use Rattle.std.proofs.lemmas.List.Sums.{sum_by-cons}
use Rattle.indexmap.proofs.ReorderLemmas.{map-reverse}
use Rattle.sendwindows.specs.Windows.{Windows, Fits, balance}
use Rattle.sendwindows.specs.WindowHistory.{
  Step,
  Resizing,
  credit_to,
  spending,
  since_opening,
  balance_of,
  Follows,
  CanResize,
}
use Rattle.h2frame.specs.declared.settings.PeerSetting.{PeerSetting}
use Rattle.h2frame.specs.declared.settings.PeerSetting.TheVariants.{TableSize, WindowSize}
use Rattle.outwriter.specs.Histories.{window_size, window_sizes}
use Rattle.outwriter.specs.Resizes.{FitsOn, IsSeen}

-- ---- the sizes that were read

which : (n g : ℕ) → (max n g ≡ n) ⊎ (max n g ≡ g)
which n g = grind arith

pub seen-more : (sizes : List ℕ) (g : ℕ) (l : Option ℕ) (n m : ℕ) → m ≡ max n g → IsSeen sizes g l
    → IsSeen (sizes ++ n ∷ []) m (Some n)
seen-more sizes g None n m is seen = (
  (sizes, refl),
  All-push (λ s. s ≤ m) sizes n (subst (All (λ s. s ≤ m)) (sym seen.0) (All-nil (λ s. s ≤ m)))
      (omega (arith, is)),
  subst (Contains (sizes ++ n ∷ [])) (sym (omega (arith, is, seen.1))) (Contains-push sizes n),
)
seen-more sizes g (Some last) n m is seen = (
  (sizes, refl),
  All-push (λ s. s ≤ m) sizes n (All-weaker (λ s. s ≤ g) (λ s. s ≤ m)
      (λ s below. omega (arith, is, below)) sizes seen.1) (omega (arith, is)),
  elim (which n g) [
    | inl e ↦ subst (Contains (sizes ++ n ∷ [])) (sym (is ∙ e)) (Contains-push sizes n)
    | inr e ↦
        subst (Contains (sizes ++ n ∷ [])) (sym (is ∙ e))
        (Contains-append_left sizes (n ∷ []) g seen.2)
  ],
)

sizes-more : (settings more : List PeerSetting) (setting : PeerSetting)
    → more ≡ settings ++ setting ∷ []
    → window_sizes more ≡ window_sizes settings ++ window_size setting
sizes-more settings more setting is =
    ap window_sizes is ∙ flat_map-append window_size settings (setting ∷ [])
    ∙ ap (λ l. window_sizes settings ++ l) (append-nil (window_size setting))

one-more : (settings : List PeerSetting) (k : ℕ) (d setting : PeerSetting) → k < length settings
    → get_or settings k d ≡ setting
    → window_sizes (take (k + 1) settings) ≡ window_sizes (take k settings) ++ window_size setting
one-more settings k d setting within is =
    sizes-more (take k settings) (take (k + 1) settings) setting
    (take_more settings k d within ∙ ap (λ (x : PeerSetting). take k settings ++ x ∷ []) is)

pub seen-window : (settings : List PeerSetting) (k : ℕ) (d : PeerSetting) (g : ℕ)
    (l : Option ℕ) (n m : ℕ)
    → k < length settings → get_or settings k d ≡ WindowSize n → m ≡ max n g
    → IsSeen (window_sizes (take k settings)) g l
    → IsSeen (window_sizes (take (k + 1) settings)) m (Some n)
seen-window settings k d g l n m within is most seen =
    subst (λ (s : List ℕ). IsSeen s m (Some n))
    (sym (one-more settings k d (WindowSize n) within is))
    (seen-more (window_sizes (take k settings)) g l n m most seen)

pub seen-table : (settings : List PeerSetting) (k : ℕ) (d : PeerSetting) (g : ℕ)
    (l : Option ℕ) (n : ℕ)
    → k < length settings → get_or settings k d ≡ TableSize n
    → IsSeen (window_sizes (take k settings)) g l
    → IsSeen (window_sizes (take (k + 1) settings)) g l
seen-table settings k d g l n within is seen =
    subst (λ (s : List ℕ). IsSeen s g l) (sym (one-more settings k d (TableSize n) within is
    ∙ append-nil (window_sizes (take k settings)))) seen

pub last-below : (sizes : List ℕ) (g last : ℕ) → IsSeen sizes g (Some last) → last ≤ g
last-below sizes g last seen =
    All-contains (λ s. s ≤ g) sizes last seen.1
    (subst (λ l. Contains l last) (sym seen.0.1) (Contains-push seen.0.0 last))

-- ---- smaller sizes fit as well

fits-smaller : (g n : ℕ) (o : Option (List Step)) (id : ℕ) → n ≤ g
    → IfSome o (λ steps. Fits (pos g +ℤ balance_of id steps))
    → IfSome o (λ steps. Fits (pos n +ℤ balance_of id steps))
fits-smaller g n None id below h = tt
fits-smaller g n (Some steps) id below h = omega (arith, ints, below, h)

pub CanResize-smaller : (history : List Step) (g n : ℕ) → n ≤ g → CanResize history g
    → CanResize history n
CanResize-smaller history g n below can = (
  omega (arith, below, can.0),
  λ id positive. fits-smaller g n (since_opening id history) id below (can.1 id positive),
)

pub FitsOn-smaller : (w : Windows) (g n : ℕ) → n ≤ g → FitsOn w g → FitsOn w n
FitsOn-smaller w g n below fits =
    (omega (arith, below, fits.0), λ id there. by (balance w id) (fits.1 id there))
  where
    by : (o : Option ℤ) → IfSome o (λ b. Fits (pos g +ℤ b)) → IfSome o (λ b. Fits (pos n +ℤ b))
    by None h = tt
    by (Some b) h = omega (arith, ints, below, h)

-- ---- histories

resized : (h : List Step) (w : Windows) (n : ℕ) → Follows h w
    → Follows (Resizing n ∷ h)
    (record { connection = w.connection; initial = n; balances = w.balances })
resized h w n follows = record {
  connection = omega (
    arith,
    ints,
    follows.connection,
    sum_by-cons (credit_to 0) (Resizing n) h,
    sum_by-cons spending (Resizing n) h,
  );
  initial = refl;
  balances = follows.balances;
}

resized_by : (h : List Step) (w : Windows) (n : ℕ) (ns : List ℕ) → Follows h w
    → Follows (map Resizing (n ∷ ns) ++ h)
    (record { connection = w.connection; initial = n; balances = w.balances })
resized_by h w n [] follows = resized h w n follows
resized_by h w n (m ∷ ms) follows =
    resized (map Resizing (m ∷ ms) ++ h) (record {
      connection = w.connection;
      initial = m;
      balances = w.balances;
    }) n (resized_by h w m ms follows)

pub all_resized : (h : List Step) (w new : Windows) (n : ℕ) (sizes before : List ℕ)
    → sizes ≡ before ++ n ∷ [] → Follows h w
    → new ≡ record { connection = w.connection; initial = n; balances = w.balances }
    → Follows (reverse (map Resizing sizes) ++ h) new
all_resized h w new n sizes before is follows new_is =
    let turned : reverse (map Resizing sizes) ≡ map Resizing (n ∷ reverse before) =
    sym (map-reverse Resizing sizes) ∙ ap (λ l. map Resizing (reverse l)) is
    ∙ ap (map Resizing) (reverse-append before (n ∷ [])) in
    subst (Follows (reverse (map Resizing sizes) ++ h)) (sym new_is)
    (subst (λ l.
    Follows (l ++ h) (record { connection = w.connection; initial = n; balances = w.balances }))
    (sym turned) (resized_by h w n (reverse before) follows))
