use Rattle.std.proofs.Common.{◌<◌, length}
use Rattle.ca_script.specs.Grammar.{Lead, lines_of}
use Rattle.ca_script.specs.RecordFiles.{FileReading, SaysFile, TakesLine, file_reading}
use Rattle.ca_script.proofs.record_file.read_records.Given as goal

-- What the lines left lead to, all lines lead to; and where all lines can be read, those left can.
abbrev pub invariant-loop-left : goal.invariant-loop-left
invariant-loop-left l = record {
  leads : (final : FileReading) → Lead TakesLine (file_reading l.file) (lines_of l.left) final → SaysFile l.text final;
  follows : (final : FileReading) → SaysFile l.text final → (end : FileReading) × Lead TakesLine (file_reading l.file) (lines_of l.left) end;
  some : 0 < length l.left → 0 < length l.text;
}

abbrev pub decreases-loop-left : goal.decreases-loop-left
decreases-loop-left l = length l.left
