use Rattle.std.proofs.Common.{◌++◌, [], List, ℕ, ◌∙◌, ap, subst, append_assoc}
use Rattle.std.specs.List.{concat}
use Rattle.std.proofs.lemmas.Result.{err_from_is_err_and}
use Rattle.lpm.specs.Tails.{IsFaultySomewhere}
use Rattle.lpm.proofs.Tails.{fault_longer}
use Rattle.lpm.proofs.splitter.Splitter.tail.Goals as goal

pub returns-in_err-read-clause-fault : goal.returns-in_err-read-clause-fault
returns-in_err-read-clause-fault c =
    let p = err_from_is_err_and c.from_residual.result c.from_residual.ensures.1 in
    let s = c.self.inside in
    let fault = c.in_err-read.field-0.0 in
    let here = c.in_err-read.ensures.fault [] c.new-tail.ensures.leaves in
    let longer = fault_longer c.as_slice.result.now (s.piece ++ concat s.later.items) fault here in
    rw (p.1, p.2) (subst (λ (b : List ℕ). IsFaultySomewhere b fault)
    (ap (λ (b : List ℕ). b ++ (s.piece ++ concat s.later.items)) c.as_slice.ensures
    ∙ c.self.view_is) longer)

pub returns-in_err-read-2-clause-fault : goal.returns-in_err-read-2-clause-fault
returns-in_err-read-2-clause-fault c =
    let p =
    err_from_is_err_and c.from_residual-in_err-read-2.result
    c.from_residual-in_err-read-2.ensures.1 in
    let s = c.self.inside in
    let fault = c.in_err-read-2.field-0.0 in
    let front = c.as_slice.result.now in
    let here =
    c.in_err-read-2.ensures.fault front (c.in_ok-read.ensures.ok [] c.new-tail.ensures.leaves) in
    let longer =
    fault_longer (front ++ c.as_slice-2.result.now) (concat s.later.items) fault here in
    let all =
    ap (λ (b : List ℕ). (b ++ c.as_slice-2.result.now) ++ concat s.later.items) c.as_slice.ensures
    ∙ ap (λ (b : List ℕ). (s.joined.bytes.items ++ b) ++ concat s.later.items) c.as_slice-2.ensures
    ∙ append_assoc s.joined.bytes.items s.piece (concat s.later.items) ∙ c.self.view_is in
    rw (p.1, p.2) (subst (λ (b : List ℕ). IsFaultySomewhere b fault) all longer)

pub returns-in_err-read_pieces-clause-fault : goal.returns-in_err-read_pieces-clause-fault
returns-in_err-read_pieces-clause-fault c =
    let p =
    err_from_is_err_and c.from_residual-in_err-read_pieces.result
    c.from_residual-in_err-read_pieces.ensures.1 in
    let s = c.self.inside in
    let fault = c.in_err-read_pieces.field-0.0 in
    let front = c.as_slice.result.now in
    let piece = c.as_slice-2.result.now in
    let here =
    c.in_err-read_pieces.ensures.fault (front ++ piece)
    (c.in_ok-read-2.ensures.ok front (c.in_ok-read.ensures.ok [] c.new-tail.ensures.leaves)) in
    let all = ap (λ (b : List ℕ). (b ++ piece) ++ concat s.later.items) c.as_slice.ensures
    ∙ ap (λ (b : List ℕ). (s.joined.bytes.items ++ b) ++ concat s.later.items) c.as_slice-2.ensures
    ∙ append_assoc s.joined.bytes.items s.piece (concat s.later.items) ∙ c.self.view_is in
    rw (p.1, p.2) (subst (λ (b : List ℕ). IsFaultySomewhere b fault) all here)
