-- Why a line is not run.
use Rattle.lines.specs.declared.command.Expected.TheVariants.{HexDigits}
use Rattle.lines.specs.declared.hex_pairs.NoBytes.{NoBytes}
use Rattle.lines.specs.declared.hex_pairs.NoBytes.TheVariants.{NotHex, NoMemory as NoRoom}
use Rattle.passes.specs.declared.fault.Fault.{Fault}
use Rattle.passes.specs.declared.fault.Fault.TheVariants.{Malformed, NoMemory}

-- why a line is not run whose digits give no bytes
abbrev pub decoding_fault : NoBytes → Fault
decoding_fault NotHex = Malformed HexDigits
decoding_fault NoRoom = NoMemory
