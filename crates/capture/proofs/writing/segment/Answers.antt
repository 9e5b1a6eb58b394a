use Rattle.std.proofs.Common.{◌≡◌, ◌+◌, ◌++◌, List, ℕ, length, sym, ap, subst, ◌∙◌, rules}
use Rattle.capture.specs.Checksum.{word_sum, pseudo_sum, IsAllOnes}
use Rattle.capture.specs.Format.{IsSegment, IsChecked}
use Rattle.capture.specs.Writing.{segment_head}
use Rattle.capture.proofs.Written.{is_segment, is_checked}
use Rattle.capture.proofs.writing.segment.Goals as goal

pub returns-clause-segment : goal.returns-clause-segment
returns-clause-segment c =
    let head = c.args.head in
    let payload = c.args.payload.now in
    let sum = c.checksum-sum.result in
    let text : c.in_ok-text.text.items ≡ segment_head head sum ++ payload =
    c.in_ok-text.ensures ∙ ap (λ (front : List ℕ). front ++ payload) c.segment_head-front.ensures in
    subst (λ (t : List ℕ). IsSegment t head payload) (sym text)
    (is_segment head sum payload (search rules) (search rules) (search rules) (search rules))

pub returns-clause-checked : goal.returns-clause-checked
returns-clause-checked c =
    let head = c.args.head in
    let payload = c.args.payload.now in
    let sum = c.checksum-sum.result in
    let text : c.in_ok-text.text.items ≡ segment_head head sum ++ payload =
    c.in_ok-text.ensures ∙ ap (λ (front : List ℕ). front ++ payload) c.segment_head-front.ensures in
    let of_head : c.word_sum-of_head.result ≡ word_sum (segment_head head 0) =
    c.word_sum-of_head.ensures.sum ∙ ap word_sum c.segment_head-blank.ensures in
    let of_payload : c.word_sum-of_payload.result ≡ word_sum payload =
    c.word_sum-of_payload.ensures.sum in
    let pseudo : c.pseudo_sum-pseudo.result ≡ pseudo_sum head.path.hosts (20 + length payload) =
    c.pseudo_sum-pseudo.ensures.sum in
    let same : c.pseudo_sum-pseudo.result + c.word_sum-of_head.result
    + c.word_sum-of_payload.result + sum
    ≡ pseudo_sum head.path.hosts (20 + length payload) + word_sum (segment_head head 0)
    + word_sum payload + sum = cc (pseudo, of_head, of_payload) in
    subst (λ (t : List ℕ). IsChecked head.path.hosts t) (sym text)
    (is_checked head.path.hosts head sum payload (search rules)
    (subst IsAllOnes same c.checksum-sum.ensures.ones))
