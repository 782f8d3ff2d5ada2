-- What each trait of the outside tells of its objects, as one record, which a clause writes `F.Files`, `I.Source` or `O.Sink`.
pub use Rattle.ac_outside.specs.declared.traits.Files.{Ghosts as FilesOf}
pub use Rattle.ac_outside.specs.declared.traits.Source.{Ghosts as SourceOf}
pub use Rattle.ac_outside.specs.declared.traits.Sink.{Ghosts as SinkOf}
