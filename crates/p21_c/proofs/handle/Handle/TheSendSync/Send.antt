use denote.Param.Send.{IsSend}
use Rattle.p21_c.proofs.Crossing.{Handle-send}
use Rattle.p21_c.specs.contracts.handle.Handle.{the_row}

pub send : IsSend the_row
send = Handle-send
