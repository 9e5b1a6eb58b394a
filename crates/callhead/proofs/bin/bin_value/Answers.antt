use Rattle.std.proofs.Common.{◌≡◌, string_bytes, ◌∙◌, inl, arith, [], ◌∷◌}
use Rattle.std.proofs.lemmas.Result.{IfOk-weaker}
use Rattle.base64.specs.Engines.{standard_no_pad}
use Rattle.base64.specs.GeneralPurpose.{encode_of}
use Rattle.callhead.specs.BinValues.{unpadded, IsBinValues}
use Rattle.callhead.proofs.Symbols.{unpadded_is}
use Rattle.callhead.proofs.bin.bin_value.Goals as goal

pub returns-clause-text : goal.returns-clause-text
returns-clause-text c =
    IfOk-weaker c.encode.result (λ t. string_bytes t ≡ encode_of standard_no_pad c.args.value.now)
    (λ t. string_bytes t ≡ unpadded c.args.value.now) (λ t e. e ∙ unpadded_is c.args.value.now)
    c.encode.ensures.text

pub returns-clause-again : goal.returns-clause-again
returns-clause-again c =
    IfOk-weaker c.encode.result (λ t. string_bytes t ≡ encode_of standard_no_pad c.args.value.now)
    (λ t. IsBinValues (string_bytes t) (c.args.value.now ∷ []))
    (λ t e. (λ i. omega (arith, c.type_inv.value i), inl (e ∙ unpadded_is c.args.value.now)))
    c.encode.ensures.text
