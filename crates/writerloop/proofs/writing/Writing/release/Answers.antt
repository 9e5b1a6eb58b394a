use Rattle.std.proofs.Common.{◌∙◌, ap, refl, subst, sym}
use Rattle.lane.specs.Ring.{in_name, put_in}
use Rattle.writerloop.specs.Sent.{IsFirstOf, core_keys, keys, numbers}
use Rattle.writerloop.proofs.CallSteps.{aligned-out, first-of, hands-of}
use Rattle.writerloop.proofs.WrittenFrames.{returns-on}
use Rattle.writerloop.proofs.WrittenInbox.{goes-returned, stays-by, stays-same}
use Rattle.writerloop.proofs.writing.Writing.release.Goals as goal

pub invariant_of-self : goal.invariant_of-self
invariant_of-self g c = record {
  aligned =
      c.note_through.ensures.same.keys
      ∙ (ap (λ calls. keys calls.items) c.has_place.ensures.calls ∙ c.args.self.now.aligned);
}

pub returns-then-not-has_place : goal.returns-then-not-has_place
returns-then-not-has_place g c = record {
  stays =
      stays-same g.W.ConnWrite.contents g.W.ConnWrite.failed c.args.self.now _ refl (record {
        input = refl;
        closed = refl;
        way = ap in_name c.note_through.ensures.home ∙ c.has_place.ensures.name;
      })
      (record {
        numbers =
            c.note_through.ensures.same.numbers
            ∙ ap (λ calls. numbers calls.items) c.has_place.ensures.calls;
        way = ap put_in c.note_through.ensures.home ∙ c.has_place.ensures.put;
      }) refl refl;
}

pub hand_back-requires-clause-whose : goal.hand_back-requires-clause-whose
hand_back-requires-clause-whose g c =
    subst (λ calls. IsFirstOf c.args.id c.in-Some.sender calls.items)
    (sym c.has_place.ensures.calls)
    (first-of c.args.id c.in-Some.sender c.args.self.now.sends.calls.items
    c.args.self.now.frames.core.sending.senders.items c.release.new.self.core.sending.senders.items
    c.args.self.now.aligned c.in-Some.ensures.releases)

pub invariant_of-self-in-Some : goal.invariant_of-self-in-Some
invariant_of-self-in-Some g c = record {
  aligned =
      aligned-out c.args.id c.in-Some.sender c.args.self.now.sends.calls.items
      c.hand_back.new.self.calls.items c.args.self.now.frames.core.sending.senders.items
      c.release.new.self.core.sending.senders.items
      (put_in c.args.self.now.sends.home) (put_in c.hand_back.new.self.home) c.args.self.now.aligned
      (hands-of c.args.id c.in-Some.sender c.has_place.new.self.calls.items
      c.args.self.now.sends.calls.items c.hand_back.new.self.calls.items
      (put_in c.has_place.new.self.home) (put_in c.args.self.now.sends.home)
      (put_in c.hand_back.new.self.home)
      (ap (λ calls. calls.items) c.has_place.ensures.calls) c.has_place.ensures.put
      c.hand_back.ensures.home)
      c.in-Some.ensures.releases;
}

pub returns-in-Some : goal.returns-in-Some
returns-in-Some g c = record {
  stays =
      stays-by g.W.ConnWrite.contents g.W.ConnWrite.failed c.args.self.now _ refl
      (λ kept. kept) (record {
        input = refl;
        closed = refl;
        way = c.hand_back.ensures.name ∙ c.has_place.ensures.name;
      })
      (returns-on g.W.ConnWrite.contents g.W.ConnWrite.failed c.args.self.now.inbox.has_lost
      c.args.id c.in-Some.sender c.args.self.now _ c.in-Some.ensures.wrote
      (goes-returned c.args.id c.in-Some.sender c.args.self.now _
      (hands-of c.args.id c.in-Some.sender c.has_place.new.self.calls.items
      c.args.self.now.sends.calls.items c.hand_back.new.self.calls.items
      (put_in c.has_place.new.self.home) (put_in c.args.self.now.sends.home)
      (put_in c.hand_back.new.self.home)
      (ap (λ calls. calls.items) c.has_place.ensures.calls) c.has_place.ensures.put
      c.hand_back.ensures.home)
      c.in-Some.ensures.releases refl)
      c.in-Some.ensures.releases c.release.ensures.lives
      (ap (λ w. w.standing) c.release.ensures.rest));
}

pub invariant_of-self-in-None : goal.invariant_of-self-in-None
invariant_of-self-in-None g c = record {
  aligned =
      c.note_through-in-None.ensures.same.keys
      ∙ (ap (λ calls. keys calls.items) c.has_place.ensures.calls
      ∙ (c.args.self.now.aligned
      ∙ sym (ap (λ w. core_keys w.core.sending.senders.items) c.in-None.ensures.unchanged)));
}

pub returns-in-None : goal.returns-in-None
returns-in-None g c = record {
  stays =
      stays-same g.W.ConnWrite.contents g.W.ConnWrite.failed c.args.self.now _ refl (record {
        input = refl;
        closed = refl;
        way = ap in_name c.note_through-in-None.ensures.home ∙ c.has_place.ensures.name;
      })
      (record {
        numbers =
            c.note_through-in-None.ensures.same.numbers
            ∙ ap (λ calls. numbers calls.items) c.has_place.ensures.calls;
        way = ap put_in c.note_through-in-None.ensures.home ∙ c.has_place.ensures.put;
      })
      c.in-None.ensures.unchanged refl;
}
