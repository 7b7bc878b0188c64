-- What two neighbouring ticks say to a party that watches the wires (paper 01, "What the chip does"). Assumes nothing.
use Rattle.std.specs.Prelude.{Bool, true, false, Option, Some, None}
use Rattle.lines.specs.Levels.{released}
use Rattle.lines.specs.declared.Lines.{Lines}
use Rattle.lines.specs.declared.Event.{Event}
use Rattle.lines.specs.declared.Event.TheVariants.{Quiet, Started, Stopped, Bit}
use Rattle.lines.specs.declared.Eye.{Eye}

-- the noted bit is delivered, unless START or STOP took it away
abbrev pub delivered : Option Bool → Event
delivered None = Quiet
delivered (Some b) = Bit b

-- SCL before and now, SDA before and now: SCL 1 in both, SDA falling is START and rising is STOP; SCL falling delivers the noted bit
abbrev pub event : Bool → Bool → Bool → Bool → Option Bool → Event
event true true true false n = Started
event true true false true n = Stopped
event true true true true n = Quiet
event true true false false n = Quiet
event true false a b n = delivered n
event false true a b n = Quiet
event false false a b n = Quiet

-- SCL rising: SDA is noted
abbrev pub note : Bool → Bool → Bool → Bool → Option Bool → Option Bool
note true true true false n = None
note true true false true n = None
note true true true true n = n
note true true false false n = n
note true false a b n = None
note false true a b n = Some b
note false false a b n = n

abbrev pub event_of : Eye → Lines → Event
event_of e l = event e.past.scl l.scl e.past.sda l.sda e.noted

abbrev pub eye_after : Eye → Lines → Eye
eye_after e l = record { past = l; noted = note e.past.scl l.scl e.past.sda l.sda e.noted }

-- before the first tick: 1,1
abbrev pub opened : Eye
opened = record { past = released; noted = None }

abbrev pub is_quiet : Event → Bool
is_quiet Quiet = true
is_quiet Started = false
is_quiet Stopped = false
is_quiet (Bit b) = false
