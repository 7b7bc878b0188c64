-- The starred cases of the bench sheet, as one table (paper 01, "Bench sheet"). Chip 0 only, asked busy time 8,000. Where the paper's memory is all FF the
-- table's bytes differ from place to place, or the byte at 4,095 could not be told from the byte at 0; where the paper names FF, FF stands there.
-- Assumes nothing.
use Rattle.std.specs.Prelude.{ℕ, zero, suc, ◌+◌, ◌*◌, ◌/◌, ◌%◌, List, [], ◌∷◌, ◌++◌, set, replicate}

-- byte i of the memory is i % 251, but FF at 16 and 17
abbrev pub rising : (n i : ℕ) → List ℕ
rising zero i = []
rising (suc n) i = i % 251 ∷ rising n (suc i)

unfoldable pub memory : List ℕ
memory = set (set (rising 4096 0) 16 0xFF) 17 0xFF

-- a place and the byte that it holds at the end
pub record Change : Type 0 where
  pub place : ℕ
  pub byte : ℕ

unfoldable pub changed : List Change → List ℕ → List ℕ
changed [] m = m
changed (c ∷ cs) m = changed cs (set m c.place c.byte)

-- the chip's pointer and busy ticks before, and after
pub record Case : Type 0 where
  pub list : List ℕ
  pub holds : List ℕ
  pub pointer : ℕ
  pub busy : ℕ
  pub number : ℕ
  pub ticks : ℕ
  pub area : List ℕ
  pub changes : List Change
  pub pointer_after : ℕ
  pub busy_after : ℕ

abbrev pub state_of : ℕ → ℕ → List ℕ
state_of p b = p % 256 ∷ p / 256 ∷ b % 256 ∷ b / 256 ∷ []

-- an accepted case that starts with pointer 0, not busy and no holds, and stores nothing
abbrev pub plainly : List ℕ → ℕ → List ℕ → ℕ → Case
plainly list ticks area p =
    record { list = list; holds = []; pointer = 0; busy = 0; number = 0; ticks = ticks; area = area; changes = []; pointer_after = p; busy_after = 0 }

abbrev pub refused : List ℕ → ℕ → Case
refused list n =
    record { list = list; holds = []; pointer = 0; busy = 0; number = n; ticks = 0; area = []; changes = []; pointer_after = 0; busy_after = 0 }

abbrev pub held : List ℕ → List ℕ → ℕ → ℕ → List ℕ → Case
held list holds number ticks area =
    record { list = list; holds = holds; pointer = 0; busy = 0; number = number; ticks = ticks; area = area; changes = []; pointer_after = 0; busy_after = 0 }

abbrev pub waited : List ℕ → ℕ → List ℕ → Case
waited list ticks area =
    record { list = list; holds = []; pointer = 0; busy = 8000; number = 0; ticks = ticks; area = area; changes = []; pointer_after = 0; busy_after = 0 }

abbrev acknowledged : List ℕ
acknowledged = 0x01 ∷ 0x00 ∷ 0x00 ∷ 0x50 ∷ 0x00 ∷ 0x00 ∷ []

unfoldable pub sheet : List Case
sheet =
    plainly [] 0 [] 0
    ∷ plainly acknowledged 44 (0x00 ∷ 0x01 ∷ 0x00 ∷ []) 0
    ∷ held acknowledged (replicate 10 16) 0 204 (0x00 ∷ 0x01 ∷ 0x00 ∷ [])
    ∷ held acknowledged (replicate 10 17) 5 0 []
    ∷ plainly (0x01 ∷ 0x00 ∷ 0x00 ∷ 0x51 ∷ 0x00 ∷ 0x00 ∷ []) 44 (0x00 ∷ 0x00 ∷ 0x00 ∷ []) 0
    ∷ plainly (0x02 ∷ 0x00 ∷ 0x00 ∷ 0x51 ∷ 0x02 ∷ 0x00 ∷ 0x50 ∷ 0x00 ∷ 0x00 ∷ []) 84 (0x00 ∷ 0x00 ∷ 0x00 ∷ 0x01 ∷ 0x00 ∷ []) 0
    ∷ plainly (0x02 ∷ 0x00 ∷ 0x00 ∷ 0x51 ∷ 0x00 ∷ 0x00 ∷ 0x50 ∷ 0x00 ∷ 0x00 ∷ []) 44 (0x00 ∷ 0x00 ∷ 0x00 ∷ 0x00 ∷ 0x00 ∷ []) 0
    ∷ plainly (0x02 ∷ 0x00 ∷ 0x00 ∷ 0x50 ∷ 0x00 ∷ 0x02 ∷ 0x00 ∷ 0x10 ∷ 0x50 ∷ 0x01 ∷ 0x02 ∷ []) 228
    (0x00 ∷ 0x01 ∷ 0x02 ∷ 0x01 ∷ 0x02 ∷ 0xFF ∷ 0xFF ∷ []) 18
    ∷ record {
      list = 0x01 ∷ 0x00 ∷ 0x00 ∷ 0x50 ∷ 0x00 ∷ 0x04 ∷ 0x00 ∷ 0x1F ∷ 0xA1 ∷ 0xB2 ∷ [];
      holds = [];
      pointer = 0;
      busy = 0;
      number = 0;
      ticks = 188;
      area = 0x00 ∷ 0x01 ∷ 0x04 ∷ [];
      changes = record { place = 31; byte = 0xA1 } ∷ record { place = 0; byte = 0xB2 } ∷ [];
      pointer_after = 1;
      busy_after = 8000;
    }
    -- a wait of 7,964 is acknowledged, 7,963 not
    ∷ waited (0x01 ∷ 0x1C ∷ 0x1F ∷ 0x50 ∷ 0x00 ∷ 0x00 ∷ []) 8008 (0x00 ∷ 0x01 ∷ 0x00 ∷ [])
    ∷ waited (0x01 ∷ 0x1B ∷ 0x1F ∷ 0x50 ∷ 0x00 ∷ 0x00 ∷ []) 8007 (0x00 ∷ 0x00 ∷ 0x00 ∷ [])
    -- bytes 4,095 and 0
    ∷ record {
      list = 0x01 ∷ 0x00 ∷ 0x00 ∷ 0x50 ∷ 0x01 ∷ 0x02 ∷ [];
      holds = [];
      pointer = 4095;
      busy = 0;
      number = 0;
      ticks = 116;
      area = 0x00 ∷ 0x01 ∷ 0x02 ∷ 79 ∷ 0 ∷ [];
      changes = [];
      pointer_after = 1;
      busy_after = 0;
    }
    -- a read of 14 bytes has 164 clocked symbols: an oscilloscope's count of SCL's rises (source 004, section 5.2)
    ∷ plainly (0x02 ∷ 0x00 ∷ 0x00 ∷ 0x50 ∷ 0x00 ∷ 0x02 ∷ 0x00 ∷ 0x20 ∷ 0x50 ∷ 0x01 ∷ 14 ∷ []) (4 * (1 + 164))
    (0x00 ∷ 0x01 ∷ 0x02 ∷ 0x01 ∷ 14 ∷ rising 14 32) 46
    -- read length 0, count 9, address 128, length 65; read length 64
    ∷ refused (0x01 ∷ 0x00 ∷ 0x00 ∷ 0x50 ∷ 0x01 ∷ 0 ∷ []) 2
    ∷ refused (9 ∷ 0x00 ∷ 0x00 ∷ 0x50 ∷ 0x01 ∷ 0x01 ∷ []) 2
    ∷ refused (0x01 ∷ 0x00 ∷ 0x00 ∷ 128 ∷ 0x01 ∷ 0x01 ∷ []) 2
    ∷ refused (0x01 ∷ 0x00 ∷ 0x00 ∷ 0x50 ∷ 0x01 ∷ 65 ∷ []) 2
    ∷ plainly (0x01 ∷ 0x00 ∷ 0x00 ∷ 0x50 ∷ 0x01 ∷ 64 ∷ []) (4 * (1 + 9 * 65 + 1)) (0x00 ∷ 0x01 ∷ 64 ∷ (rising 16 0 ++ (0xFF ∷ 0xFF ∷ rising 46 18))) 64
    ∷ []
