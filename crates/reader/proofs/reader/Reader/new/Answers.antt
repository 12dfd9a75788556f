use Rattle.readings.proofs.Stand.{stands}
use Rattle.reader.proofs.reader.Reader.new.Goals as goal

pub returns-clause-stands : goal.returns-clause-stands
returns-clause-stands g c = stands _ c.in-Ok.ensures (g.met.B.Book.lawful _)
