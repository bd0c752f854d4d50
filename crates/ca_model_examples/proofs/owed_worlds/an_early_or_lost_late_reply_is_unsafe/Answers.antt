use Rattle.ca_model_examples.proofs.Owed.{never-cleared, never-otherwise, never-unanswered, never-unfinished, never-withdrawn}
use Rattle.ca_model_examples.proofs.owed_worlds.an_early_or_lost_late_reply_is_unsafe.Goals as goal

pub returns : goal.returns
returns c = record { unfinished = never-unfinished; withdrawn = never-withdrawn; cleared = never-cleared; otherwise = never-otherwise; lost = never-unanswered }
