use Rattle.results.proofs.json.put_counts.Goals as goal

pub returns : goal.returns
returns c =
    rw (
      c.in_ok-put_count-11.ensures,
      c.in_ok-put_count-10.ensures,
      c.in_ok-put_count-9.ensures,
      c.in_ok-put_count-8.ensures,
      c.in_ok-put_count-7.ensures,
      c.in_ok-put_count-6.ensures,
      c.in_ok-put_count-5.ensures,
      c.in_ok-put_count-4.ensures,
      c.in_ok-put_count-3.ensures,
      c.in_ok-put_count-2.ensures,
      c.in_ok-put_count.ensures,
    ) at c.put_count-12.ensures
