use Rattle.std.proofs.Common.{◌≡◌, ◌-◌, ◌∙◌, sym, inl, inr, codes, true, false, length, take}
use Rattle.std.proofs.lemmas.Slice.Eq.{bytes_eq-Decides, ends_is}
use Rattle.std.proofs.lemmas.Bool.Decides.{Decides-eqb}
use Rattle.hpack_codec.proofs.encoder.is_private.Goals as goal

pub returns-else-eq : goal.returns-else-eq
returns-else-eq c =
    let e =
    ends_is Decides-eqb c.args.name.now (codes "-bin") c.ends_with.result
    c.ends_with.ensures.value in (
      λ yes. inr (take (length c.args.name.now - 4) c.args.name.now, e.0 yes),
      λ private. elim private [
        | inl message ↦
            absurd (let no : true ≡ false =
            sym ((bytes_eq-Decides _ _).1 (message ∙ sym c.as_slice.ensures)) ∙ sym c.eq.ensures
            ∙ c.if-eq.false in
            cc)
        | inr bin ↦ e.1 bin.0 bin.1
      ],
    )
