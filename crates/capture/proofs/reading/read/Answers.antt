use Rattle.std.proofs.Common.{◌≡◌, ◌++◌, length, rules}
use Rattle.std.proofs.lemmas.List.{take-append-drop}
use Rattle.capture.specs.Format.{IsFileHead}
use Rattle.capture.proofs.Records.{behind_file_head}
use Rattle.capture.proofs.reading.read.Goals as goal

pub returns-then-not-is_file_head-clause-only : goal.returns-then-not-is_file_head-clause-only
returns-then-not-is_file_head-clause-only c = λ packets is.
    let head = c.in-Some.head.now in
    let records = c.in-Some.records.now in
    let cut = c.in-Some.ensures.cases in
    let parts : c.args.bytes.now ≡ head ++ records =
    cc (cut.1, cut.2, take-append-drop 24 c.args.bytes.now) in
    let size : length head ≡ 24 = cut.3 in
    let wrong : IsFileHead head → ⊥ = search rules in
    absurd (wrong (behind_file_head _ head records packets parts size is).0)

pub returns-in-Ok-clause-ok : goal.returns-in-Ok-clause-ok
returns-in-Ok-clause-ok c =
    let head = c.in-Some.head.now in
    let records = c.in-Some.records.now in
    let cut = c.in-Some.ensures.cases in
    let parts : c.args.bytes.now ≡ head ++ records =
    cc (cut.1, cut.2, take-append-drop 24 c.args.bytes.now) in
    let right : IsFileHead head = search rules in
    (head, records, parts, right, c.in-Ok.ensures.ok)

pub returns-in-Ok-clause-only : goal.returns-in-Ok-clause-only
returns-in-Ok-clause-only c = λ packets is.
    let head = c.in-Some.head.now in
    let records = c.in-Some.records.now in
    let cut = c.in-Some.ensures.cases in
    let parts : c.args.bytes.now ≡ head ++ records =
    cc (cut.1, cut.2, take-append-drop 24 c.args.bytes.now) in
    let size : length head ≡ 24 = cut.3 in
    c.in-Ok.ensures.only packets (behind_file_head _ head records packets parts size is).1

pub returns-in-Err-clause-only : goal.returns-in-Err-clause-only
returns-in-Err-clause-only c = λ packets is.
    let head = c.in-Some.head.now in
    let records = c.in-Some.records.now in
    let cut = c.in-Some.ensures.cases in
    let parts : c.args.bytes.now ≡ head ++ records =
    cc (cut.1, cut.2, take-append-drop 24 c.args.bytes.now) in
    let size : length head ≡ 24 = cut.3 in
    c.in-Err.ensures.only packets (behind_file_head _ head records packets parts size is).1
