-- Byte 0 of a frame's descriptor, and its bits.
use Rattle.std.proofs.Common.{◌≡◌, ℕ, ◌+◌, Bool, true, false, ltb, refl}
use Rattle.rules.specs.Bits.{has, HELD, FIRST, LAST, TAKEN, with_bit}
use Rattle.rules.specs.Table.{kept_flags, alike}

abbrev pub flags_of : Bool → Bool → Bool → ℕ
flags_of start end true = kept_flags start end + 8
flags_of start end false = kept_flags start end

pub flags_below : (start end tk : Bool) → ltb (flags_of start end tk) 16 ≡ true
flags_below true true true = refl
flags_below true true false = refl
flags_below true false true = refl
flags_below true false false = refl
flags_below false true true = refl
flags_below false true false = refl
flags_below false false true = refl
flags_below false false false = refl

pub flags_held : (start end tk : Bool) → has HELD (flags_of start end tk) ≡ true
flags_held true true true = refl
flags_held true true false = refl
flags_held true false true = refl
flags_held true false false = refl
flags_held false true true = refl
flags_held false true false = refl
flags_held false false true = refl
flags_held false false false = refl

pub flags_first : (start end tk : Bool) → has FIRST (flags_of start end tk) ≡ start
flags_first true true true = refl
flags_first true true false = refl
flags_first true false true = refl
flags_first true false false = refl
flags_first false true true = refl
flags_first false true false = refl
flags_first false false true = refl
flags_first false false false = refl

pub flags_last : (start end tk : Bool) → has LAST (flags_of start end tk) ≡ end
flags_last true true true = refl
flags_last true true false = refl
flags_last true false true = refl
flags_last true false false = refl
flags_last false true true = refl
flags_last false true false = refl
flags_last false false true = refl
flags_last false false false = refl

pub flags_taken : (start end tk : Bool) → has TAKEN (flags_of start end tk) ≡ tk
flags_taken true true true = refl
flags_taken true true false = refl
flags_taken true false true = refl
flags_taken true false false = refl
flags_taken false true true = refl
flags_taken false true false = refl
flags_taken false false true = refl
flags_taken false false false = refl

pub flags_with_taken : (start end : Bool) → with_bit TAKEN (flags_of start end false) ≡ flags_of start end true
flags_with_taken true true = refl
flags_with_taken true false = refl
flags_with_taken false true = refl
flags_with_taken false false = refl

pub alike_itself : (b : Bool) → alike b b ≡ true
alike_itself true = refl
alike_itself false = refl
