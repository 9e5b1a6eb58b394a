-- The timeout that a case asks for is one.
use Rattle.std.proofs.Common.{arith}
use Rattle.std.specs.Prelude.{Some, codes, refl}
use Rattle.callhead.specs.Timeouts.{IsTimeout}
use Rattle.callhead.specs.RequestFields.{IsTimeoutText}

one_millisecond_is : IsTimeout (codes "1m") 1000000
one_millisecond_is = record {
  digits = codes "1";
  letter = 0x6D;
  unit = 1000000;
  whole = refl;
  amount = ((omega arith, (omega arith, tt)), omega arith);
  named = refl;
  product = refl;
}

pub one_millisecond : IsTimeoutText (Some (codes "1m"))
one_millisecond = (1000000, one_millisecond_is)
