-- Working: the statement's clause of updates, of the subscriptions that are at open ends.
use Rattle.std.specs.Prelude.{ℕ, ◌≡◌, true, List}
use Rattle.ca_requests.specs.Meaning.{Means}
use Rattle.ca_text.specs.declared.command.Command.TheVariants as command
use Rattle.ca_text.specs.Place.{At}
use Rattle.ca_wire.specs.Messages.{mask_in}
use Rattle.ca_model.specs.History.{Entry, Sent, Step}
use Rattle.ca_model.specs.Server.{ServerEnd, Subscription}
use Rattle.ca_model.specs.ServerSteps.{HasEnd}
use Rattle.ca_model.specs.Speech.{Is}
use Rattle.ca_model.specs.Updates.{Shows}
use Rattle.ca_model.specs.Headline.{Follows}
use Rattle.ca_model.specs.Known.{IsDue}
use Rattle.ca_model.specs.Posts.{matching}
use Rattle.ca_model.specs.ServerEvents.{number_of}
use Rattle.ca_model.specs.World.{Joined, ServerSide, Standing, World, circuit_of, port_of, rules_of}

-- Each subscription that is at an open end of a server came by an EVENT_ADD that was handled; and
-- its updates follow the record that has its name: they carry matching posts by rising numbers,
-- show them, and the newest is among them.
abbrev pub StandingFollow : World → Type 0
StandingFollow w =
    (n : ℕ) (c : Joined) (y : ServerSide) (e : ServerEnd) (log : List Entry) (i : ℕ)
    (sub : Subscription) (st : Standing) → At w.circuits n c → At w.servers c.server y
    → c.lists.server_open ≡ true → HasEnd y.core c.at_server e → At w.server_logs y.life log
    → At e.subscriptions i sub → At c.standing i st
    → (s : Sent) × (h : Step) × At c.lists.up st.place s × Is command.EventAdd s.message
    × At c.lists.handled st.place h
    × Follows (IsDue (port_of w) (rules_of w)) Shows Means (circuit_of c) log st.place
    (number_of sub.name y.records) s
    (matching log h.logged (number_of sub.name y.records) (mask_in s.message))
