-- Accounts in blocks, as one list.
use Rattle.std.specs.Prelude.{
  ℕ,
  Bool,
  true,
  ◌&&◌,
  nat_eq,
  nat_lt,
  List,
  [],
  ◌∷◌,
  ◌++◌,
  length,
  vec_capacity,
}
use Rattle.std.specs.List.{flat_map}
use Rattle.std.specs.Global.{Vec}
use Rattle.callparts.specs.declared.call_account.CallAccount.{CallAccount}

-- the full blocks, and after them the last one
abbrev pub items_of : Vec (Vec CallAccount) → Vec CallAccount → List CallAccount
items_of full last = flat_map (λ block. block.items) full.items ++ last.items

-- whether each block is full
abbrev pub are_full : List (Vec CallAccount) → Bool
are_full [] = true
are_full (block ∷ blocks) = nat_eq (length block.items) 64 && are_full blocks

-- whether there is room for one account more
abbrev pub has_room : ℕ → Vec CallAccount → Bool
has_room count last =
    nat_lt (length last.items) 64 && nat_lt (length last.items) (vec_capacity last)
    && nat_lt count 18446744073709551615
