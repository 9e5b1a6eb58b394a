use Rattle.std.proofs.Common.{[], ◌∷◌, ap, sym}
use Rattle.session.specs.declared.event.InEvent.{InEvent}
use Rattle.connection.proofs.Follow.{with-as}
use Rattle.connection.proofs.HeardActs.{with-events}
use Rattle.connection.proofs.reader.Reader.follow.Goals as goal

pub returns-in-BadHead : goal.returns-in-BadHead
returns-in-BadHead g c =
    record { reads = with-as _ _ _ _ _ _ _ _ c.in-BadHead.is c.refuse.ensures.reads }

pub returns-in-End : goal.returns-in-End
returns-in-End g c = record { reads = with-as _ _ _ _ _ _ _ _ c.in-End.is c.end_half.ensures.reads }

pub returns-in-Reset : goal.returns-in-Reset
returns-in-Reset g c =
    record { reads = with-as _ _ _ _ _ _ _ _ c.in-Reset.is c.reset.ensures.reads }

pub returns-in-StreamError : goal.returns-in-StreamError
returns-in-StreamError g c =
    record { reads = with-as _ _ _ _ _ _ _ _ c.in-StreamError.is c.fail.ensures.reads }

pub returns-in-Control : goal.returns-in-Control
returns-in-Control g c =
    record { reads = with-as _ _ _ _ _ _ _ _ c.in-Control.is c.pass_on.ensures.reads }

pub returns-in-PeerGoaway : goal.returns-in-PeerGoaway
returns-in-PeerGoaway g c =
    record { reads = with-as _ _ _ _ _ _ _ _ c.in-PeerGoaway.is c.hear_goaway.ensures.reads }

pub returns-in-Fatal : goal.returns-in-Fatal
returns-in-Fatal g c =
    record { reads = with-as _ _ _ _ _ _ _ _ c.in-Fatal.is c.fatal.ensures.reads }

pub returns-in-Open : goal.returns-in-Open
returns-in-Open g c = record {
  reads =
      with-events _ _ _ _ _ _ _ _ _ (ap (λ (e : InEvent). e ∷ []) (sym c.in-Open.is))
      c.open.ensures.reads;
}

pub returns-in-Data : goal.returns-in-Data
returns-in-Data g c = record {
  reads =
      with-events _ _ _ _ _ _ _ _ _ (ap (λ (e : InEvent). e ∷ []) (sym c.in-Data.is))
      c.data.ensures.reads;
}

pub returns-in-Loose : goal.returns-in-Loose
returns-in-Loose g c = record {
  reads =
      with-events _ _ _ _ _ _ _ _ _ (ap (λ (e : InEvent). e ∷ []) (sym c.in-Loose.is))
      c.loose.ensures.reads;
}
