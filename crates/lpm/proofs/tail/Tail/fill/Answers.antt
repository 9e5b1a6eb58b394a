use Rattle.std.proofs.Common.{◌≡◌, ◌+◌, ℕ, length, take, ◌∙◌, ap, sym, Result, Ok, arith}
use Rattle.std.proofs.lemmas.List.{take_all, length-take, length-take-le}
use Rattle.lpm.proofs.Tails.{extent_of-le, extent_of-five, leaves_more, known_short, known_long}
use Rattle.lpm.specs.declared.fault.LpmFault.{LpmFault}
use Rattle.lpm.specs.Fronts.{extent_of}
use Rattle.lpm.proofs.tail.Tail.fill.Goals as goal
use Rattle.lpm.proofs.tail.Tail.fill.Goals.{then-len-lt-PREFIX_LEN, else-len-lt-PREFIX_LEN}

abbrev mine : ℕ → Result ℕ LpmFault
mine n = Ok n

ok_is : {m n : ℕ} → mine m ≡ mine n → m ≡ n
ok_is e = cc

pub extended-prefix-requires : goal.extended-prefix-requires
extended-prefix-requires c =
    let old = c.args.self.now in
    omega (
      arith,
      length-take c.min-count.result c.args.piece.now,
      extent_of-five (take old.len old.prefix) c.args.total
          (omega (arith, length-take old.len old.prefix)) c.requires.extent,
    )

pub invariant_of-self : goal.invariant_of-self
invariant_of-self c =
    let old = c.args.self.now in
    let prefix = c.if-len-lt-PREFIX_LEN.prefix in
    let len = old.len + c.min-count.result in
    record {
      five = elim c.if-len-lt-PREFIX_LEN.branch [
        | then-len-lt-PREFIX_LEN w ↦
            omega (arith, w.extended-prefix.ensures.five, ap length w.prefix-is)
        | else-len-lt-PREFIX_LEN w ↦ omega (arith, old.five, ap length w.prefix-is)
      ];
      within = λ total e. elim c.if-len-lt-PREFIX_LEN.branch [
        | then-len-lt-PREFIX_LEN w ↦
            omega (
              arith,
              extent_of-le (take len prefix) total e,
              extent_of-five (take old.len old.prefix) c.args.total
                  (omega (arith, length-take old.len old.prefix)) c.requires.extent,
            )
        | else-len-lt-PREFIX_LEN w ↦
            let same : take len prefix ≡ take old.len old.prefix =
            ap (take len) w.prefix-is ∙ take_all len old.prefix (omega (arith, old.five))
            ∙ sym (take_all old.len old.prefix (omega (arith, old.five))) in
            let equal : total ≡ c.args.total =
            ok_is (sym e ∙ ap extent_of same ∙ c.requires.extent) in
            omega (arith, equal)
      ];
    }

pub returns-clause-read : goal.returns-clause-read
returns-clause-read c = λ bytes leaves.
    let old = c.args.self.now in
    let count = c.min-count.result in
    let more = take count c.args.piece.now in
    let len : length more ≡ count = length-take-le count c.args.piece.now (omega arith) in
    leaves_more bytes more old _ leaves (omega (arith, len)) (elim c.if-len-lt-PREFIX_LEN.branch [
      | then-len-lt-PREFIX_LEN w ↦
          let five =
          extent_of-five (take old.len old.prefix) c.args.total
          (omega (arith, length-take old.len old.prefix)) c.requires.extent in
          known_short old.prefix w.extended-prefix.result more old.len count len
          (omega (arith, five)) w.extended-prefix.ensures.front
          ∙ ap (take (old.len + count)) (sym w.prefix-is)
      | else-len-lt-PREFIX_LEN w ↦
          known_long old.prefix more old.len count old.five (omega arith)
          ∙ ap (take (old.len + count)) (sym w.prefix-is)
    ])
