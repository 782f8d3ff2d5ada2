-- What sinks, sources and files in memory keep.
use Rattle.std.specs.Prelude.{ℕ, List, [], ◌∷◌, if◌then◌else◌, bytes_eq, string_bytes, Some, None}
use Rattle.ac_outside.specs.Outside.{Contents}
use Rattle.ac_outside.specs.declared.calls.Calls.{Calls}
use Rattle.ac_outside.specs.declared.files.MemoryFile.{MemoryFile}

-- a sink: the bytes written, and its writes
pub record Sunk : Type 0 where
  pub bytes : List ℕ
  pub writes : Calls

-- a source: the bytes that are left, and its reads
pub record Fed : Type 0 where
  pub left : List ℕ
  pub reads : Calls

-- a world: the bytes that its input has left, and those of console and channel
pub record Around : Type 0 where
  pub left : List ℕ
  pub console : List ℕ
  pub channel : List ℕ

-- a world some of whose calls fail, with its reads, and its prints and sends
pub record Faulty : Type 0 where
  pub world : Around
  pub reads : Calls
  pub writes : Calls

-- files: their names and bytes, their reads, and their creates and appends
pub record Filed : Type 0 where
  pub files : List MemoryFile
  pub reads : Calls
  pub writes : Calls

-- the bytes of the first file of that name
abbrev pub file_contents : List MemoryFile → Contents
file_contents [] name = None
file_contents (file ∷ files) name = if bytes_eq (string_bytes file.name) name then Some file.bytes.0 else file_contents files name
