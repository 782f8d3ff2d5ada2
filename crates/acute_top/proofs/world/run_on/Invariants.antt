use Rattle.std.specs.Prelude.{Some, option_map}
use Rattle.acute_words.specs.Commands.{channel_of}
use Rattle.acute_top.specs.Channels.{of_channel}
use Rattle.acute_top.proofs.world.run_on.Given as goal

abbrev pub ghosts-run_at : goal.ghosts-run_at
ghosts-run_at g a = record {
  files = a.files.ghost_name;
  input = a.input.ghost_name;
  console = a.console.ghost_name;
  stream = a.stream.ghost_name;
  from = option_map channel_of a.from;
  to = option_map channel_of a.to;
  start = Some a.files.now;
  contents = g.F.Files.contents a.files.now;
  console_faults = g.C.Sink.faults a.console.now;
  channel_faults = of_channel (option_map channel_of a.to) 0 (g.S.Sink.faults a.stream.now) (g.F.Files.write_faults a.files.now);
}
