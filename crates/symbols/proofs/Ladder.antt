-- The fault that is named, a law for each. The premises are what the tests answered, in the order in which they are looked at. Assumes nothing.
use Rattle.std.proofs.Common.{◌≡◌, Bool, true, false, Some, None}
use Rattle.lines.specs.declared.Lines.{Lines}
use Rattle.symbols.specs.Symbols.{drives}
use Rattle.symbols.specs.Faults.{is_broken, is_taken, is_stuck, is_undefined, is_lost, fault_of}
use Rattle.symbols.specs.declared.Phase.{Phase}
use Rattle.symbols.specs.declared.Fault.TheVariants.{LineBroken, NotFree, ClockStuck, Undefined, DataLost}

module _ (ph : Phase) (was : Bool) (seen d : Lines) (a : Bool) (driven : d ≡ drives ph was) (tested : a ≡ is_broken d seen) where
  pub line_broken : a ≡ true → Some LineBroken ≡ fault_of ph was seen
  unfolding fault_of
  line_broken h = let e : is_broken (drives ph was) seen ≡ true = cc in simp e

  module _ (whole : a ≡ false) where
    not_broken : is_broken (drives ph was) seen ≡ false
    not_broken = cc

    pub not_free : (b : Bool) → b ≡ is_taken ph seen → b ≡ true → Some NotFree ≡ fault_of ph was seen
    unfolding fault_of
    not_free b e h = let g : is_taken ph seen ≡ true = cc in simp (not_broken, g)

    module _ (b : Bool) (tested4 : b ≡ is_taken ph seen) (free : b ≡ false) where
      is_free : is_taken ph seen ≡ false
      is_free = cc

      pub clock_stuck : (x : Bool) → x ≡ is_stuck ph seen → x ≡ true → Some ClockStuck ≡ fault_of ph was seen
      unfolding fault_of
      clock_stuck x e h = let g : is_stuck ph seen ≡ true = cc in simp (not_broken, is_free, g)

      module _ (x : Bool) (tested2 : x ≡ is_stuck ph seen) (runs : x ≡ false) where
        is_running : is_stuck ph seen ≡ false
        is_running = cc

        pub undefined : (y : Bool) → y ≡ is_undefined ph seen → y ≡ true → Some Undefined ≡ fault_of ph was seen
        unfolding fault_of
        undefined y e h = let g : is_undefined ph seen ≡ true = cc in simp (not_broken, is_free, is_running, g)

        module _ (y : Bool) (tested3 : y ≡ is_undefined ph seen) (fine : y ≡ false) where
          is_defined : is_undefined ph seen ≡ false
          is_defined = cc

          pub data_lost : (z : Bool) → z ≡ is_lost ph seen → z ≡ true → Some DataLost ≡ fault_of ph was seen
          unfolding fault_of
          data_lost z e h = let g : is_lost ph seen ≡ true = cc in simp (not_broken, is_free, is_running, is_defined, g)

          pub clear : (z : Bool) → z ≡ is_lost ph seen → z ≡ false → None ≡ fault_of ph was seen
          unfolding fault_of
          clear z e h = let g : is_lost ph seen ≡ false = cc in simp (not_broken, is_free, is_running, is_defined, g)
