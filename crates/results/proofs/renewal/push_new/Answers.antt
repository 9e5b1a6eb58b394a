use Rattle.std.proofs.Common.{◌≡◌, ◌∙◌, ap, map, rules, string_bytes, sym, true, false}
use Rattle.std.specs.List.{list_any}
use Rattle.std.proofs.lemmas.List.{map_push}
use Rattle.results.specs.KnownList.{entry, has_name}
use Rattle.results.proofs.RenewalLemmas.{named_same, with_new, with_there}
use Rattle.results.proofs.renewal.push_new.Goals as goal

pub returns-then-is_listed : goal.returns-then-is_listed
returns-then-is_listed c =
    let there : list_any (has_name (string_bytes c.args.next.name)) c.args.all.now.items
    ≡ true = search rules in
    sym (with_there (map entry c.args.all.now.items) (entry c.args.next)
    (sym (named_same (string_bytes c.args.next.name) c.args.all.now.items) ∙ there))

pub returns : goal.returns
returns c =
    let new : list_any (has_name (string_bytes c.args.next.name)) c.args.all.now.items
    ≡ false = search rules in
    ap (map entry) c.in_ok-push.ensures.items
    ∙ (map_push entry c.args.all.now.items c.args.next
    ∙ sym (with_new (map entry c.args.all.now.items) (entry c.args.next)
    (sym (named_same (string_bytes c.args.next.name) c.args.all.now.items) ∙ new)))
