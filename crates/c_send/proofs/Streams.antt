-- The calls of C for a turn and for a reading are those of term 3.
use mathlib.Core.Path.{◌≡◌, refl, ap}
use mathlib.Core.Bool.{Bool, true, false, not}
use lib.Dec.{eqb}
use lib.IntN.{pos}
use Rattle.bits.specs.Bits.{bit_n}
use Rattle.c_send.specs.Streams.{CallsOfC}

-- a flag that C is given is the flag that it hands in
flag_again : (a : Bool) → not (eqb (bit_n a) 0) ≡ a
flag_again true = refl
flag_again false = refl

pub calls_of_c : CallsOfC
calls_of_c = record {
  hands_in = λ r s x variable. record {
    chosen = record { samples = x; variable = variable; is = refl };
    time_slots = refl;
    bytes = refl;
    position = refl;
  };
  sends = λ s a. (refl, refl, refl);
  reads = λ c f. (refl, ap (λ (a : Bool). record { border = pos f.border; attack = a }) (flag_again f.ends_on_attack), refl);
}
