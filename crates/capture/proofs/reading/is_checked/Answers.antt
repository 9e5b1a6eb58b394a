use Rattle.std.proofs.Common.{◌≡◌, ◌↔◌, ◌+◌, ℕ, IsTrue, length, subst}
use Rattle.capture.specs.Checksum.{word_sum, pseudo_sum, IsAllOnes}
use Rattle.capture.proofs.reading.is_checked.Goals as goal

pub returns : goal.returns
returns c =
    let hosts = c.args.hosts.now in
    let segment = c.args.segment.now in
    let pseudo : c.pseudo_sum-pseudo.result ≡ pseudo_sum hosts (length segment) =
    c.pseudo_sum-pseudo.ensures.sum in
    let words : c.word_sum-words.result ≡ word_sum segment = c.word_sum-words.ensures.sum in
    let sum : c.pseudo_sum-pseudo.result + c.word_sum-words.result ≡ pseudo_sum hosts
    (length segment) + word_sum segment = cc (pseudo, words) in
    subst (λ (n : ℕ). IsTrue c.is_all_ones.result ↔ IsAllOnes n) sum c.is_all_ones.ensures
