use Rattle.std.proofs.Common.{sym, ◌∙◌, ap}
use Rattle.callparts.proofs.Entering.{enters_moves}
use Rattle.callparts.proofs.register.Front.enter.Goals as goal

pub compare_exchange-found-requires : goal.compare_exchange-found-requires
compare_exchange-found-requires g c =
    let h = c.args.register.now.head_is in
    let offer = c.plain-offer.ensures in
    let pen = c.no_pen-pen.ensures in
    let front = c.args.self.now in (
      ap (λ w. w.tracked) h,
      front.one_book ∙ sym (ap (λ w. w.book) h),
      pen.0 ∙ (front.one_book ∙ sym (ap (λ w. w.book) h)),
      offer.0,
      rw (ap (λ w. w.key) h, pen.1, offer.1, offer.3)
          (enters_moves front.seen.log c.args.work.now front.count (sym front.counted)),
    )
