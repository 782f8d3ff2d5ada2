use Rattle.ac_run_tests.proofs.SmallFrames.{one_byte}
use Rattle.ac_run_tests.proofs.outside.send_one.Goals as goal

pub send-requires : goal.send-requires
send-requires g c = one_byte c.args.byte
