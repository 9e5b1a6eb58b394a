use Rattle.std.proofs.Common.{refl, sym, append-nil, []}
use Rattle.outwriter.specs.declared.control.WriterOrder.TheVariants.{Window}
use Rattle.outwriter.proofs.RunStateSteps.{taken, same-due, quiet-stand, mirrors-rest}
use Rattle.outwriter.proofs.CallStepsOrders.{takes-rest}
use Rattle.outwriter.proofs.WindowRuns.{
  window-taken,
  fits-unless-over,
  over-stands,
  not-true,
  not-false,
}
use Rattle.outwriter.proofs.outbound.Outbound.take_window.Goals as goal

pub returns : goal.returns
returns c = record {
  taken = λ run m.
      mirrors-rest _ _ _ _ _ _ c.args.self.now.states c.credit-credited.new.self
      c.credit-credited.ensures.rest
      (taken (Window c.args.id c.args.increment) run _ _ _ _ _ _ _ _ m
      (window-taken run c.args.id c.args.increment c.args.self.now.states c.credit-credited.new.self
      c.credit-credited.result c.credit-credited.ensures.can c.credit-credited.ensures.cannot
      c.credit-credited.ensures.unchanged c.credit-credited.ensures.windows m.windows_follow)
      (same-due (Window c.args.id c.args.increment) run c.args.self.now.due.items refl m.answers)
      (quiet-stand _ run _ (λ id. refl) (λ id. refl) m.stand));
  takes =
      takes-rest [] [] c.args.self.now
      (record c.args.self.now { states = c.credit-credited.new.self })
      c.credit-credited.ensures.rest (sym (append-nil c.args.self.now.due.items))
      (λ id. refl) refl refl refl;
  fits = λ e.
      fits-unless-over c.args.self.now.states.windows c.args.id c.args.increment
      c.credit-credited.result c.credit-credited.ensures.fault c.credit-credited.ensures.can
      (c.is_overflow.ensures.fits (not-true c.is_overflow.result e));
  over = λ e.
      over-stands c.args.self.now.states.windows c.args.id c.args.increment c.credit-credited.result
      c.credit-credited.ensures.fault c.credit-credited.ensures.cannot
      (c.is_overflow.ensures.over (not-false c.is_overflow.result e));
  encoder = refl;
}
