-- What the replay of a script comes to.
use Rattle.std.specs.Prelude.{ℕ, ◌≡◌, List, Option, None, Some, length, map, take}
use Rattle.ca_events.specs.Events.{event_of}
use Rattle.ca_model.specs.Events.{Event}
use Rattle.ca_model.specs.World.{Setting, World}
use Rattle.ca_world_script.specs.Whole.{report_text}
use Rattle.ca_text.specs.declared.refusal.Refusal.{Refusal}
use Rattle.ca_world.specs.Running.{HasRun}
use Rattle.ca_world_script.specs.Scripts.{IsNoScript, SaysScript}
use Rattle.ca_world_script.specs.declared.script.Script.{Script}
use Rattle.ca_replay.specs.Drawing.{DrawsAlong}
use Rattle.ca_replay.specs.Settings.{setting_of}

-- the events that are run: those of the script, with those that the seed draws if there is one
abbrev pub AreRun : Setting → Option ℕ → List Event → List Event → Type 0
AreRun s None script es = es ≡ script
AreRun s (Some seed) script es = DrawsAlong s seed script es

-- Events were run in a world of this setting, to the end or up to this refusal. Whatever they are,
-- the world that they leave is safe, and legal (`HasRun`); and this is its report.
pub record Reports (s : Setting) (es : List Event) (stop : Option Refusal)
    (report : List ℕ) : Type 0 where
  pub done : ℕ
  pub w : World
  pub runs : HasRun s es done stop w
  pub is : report ≡ report_text (length w.clients) (take done es) w.client_logs

-- The text says a script, whose events were run with those of the seed.
pub record Reported (text : List ℕ) (seed : Option ℕ) (stop : Option Refusal)
    (report : List ℕ) : Type 0 where
  pub s : Script
  pub es : List Event
  pub says : SaysScript text s
  pub events : AreRun (setting_of s) seed (map event_of s.events.items) es
  pub reports : Reports (setting_of s) es stop report

-- The text says no script: a line of it is not understood.
abbrev pub IsNotRead : List ℕ → Type 0
IsNotRead text = IsNoScript text
