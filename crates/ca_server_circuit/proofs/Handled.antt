-- What a message of each command comes to.
use Rattle.std.proofs.Common.{◌≡◌, ℕ, ◌==◌, Bool, true, false, List, [], ◌∷◌, if◌then◌else◌, refl, sym, ap, ◌∙◌}
use Rattle.std.specs.Prelude.{All}
use Rattle.std.proofs.lemmas.Bool.{ne_eqb}
use Rattle.std.proofs.lemmas.List.Elements.{All-cons, All-nil}
use Rattle.std.proofs.lemmas.List.Folds.{list_any_none}
use Rattle.ca_text.specs.Command.{command_number}
use Rattle.ca_text.specs.declared.command.Command.{Command}
use Rattle.ca_text.specs.declared.command.Command.TheVariants as command
use Rattle.ca_arena.specs.declared.handle.Handle.{Handle}
use Rattle.ca_queue.specs.Keys.{same}
use Rattle.ca_records.specs.Store.{Store}
use Rattle.ca_wire.specs.Fields.{Fields}
use Rattle.ca_wire.specs.Messages.{header_only, cancel_reply, cleared_reply, text_in, version_reply}
use Rattle.ca_model.specs.Due.{Action, Clears, Drops, Due, Greets, Names, Nothing, Switches, is_known, key_in, named, search_due}
use Rattle.ca_model.specs.Ends.{Peer}
use Rattle.ca_model.specs.Server.{ServerEnd, with_events, without_subscriptions}
use Rattle.ca_model.specs.ServerSteps.{without_channel}
use Rattle.ca_server_circuit.specs.declared.effect.Effect.TheVariants as told
use Rattle.ca_server_circuit.specs.declared.step.FollowUp.{FollowUp}
use Rattle.ca_server_circuit.specs.declared.step.FollowUp.TheVariants as effect
use Rattle.ca_server_circuit.specs.Clearing.{Withdraws}
use Rattle.ca_server_circuit.specs.Creating.{CreatesBy}
use Rattle.ca_server_circuit.specs.Handling.{Does, Replies, known, replied}
use Rattle.ca_server_circuit.proofs.Dues.{IsDueFor, command_at, due-for, due-other}
use Rattle.ca_server_circuit.proofs.Taken.{replied-none}
use Rattle.ca_server_circuit.proofs.Telling.{none-told, quiet-told, told_at}

module _ (port : ℕ) (s : Store) (h : Handle) (e : ServerEnd) (m : Fields) where
  -- what is due for the message of this command
  abbrev pub DueFor : Command → List Fields → Action → Type 0
  DueFor c r a = IsDueFor (known port s e) m r a c

  abbrev pub DueHere : List Fields → Action → Type 0
  DueHere r a = Due (known port s e) m r a

  -- what was done by the relation of a command was done by what is due
  pub does-for : (did : FollowUp) (t : Store) (new : ServerEnd) (c : Command) → m.command ≡ command_number c → is_known (command_number c) ≡ true → command_at (command_number c) ≡ c → Does (DueFor c) s h e m did t new → Does DueHere s h e m did t new
  does-for did t new c is yes_it one d = record {
    replies = d.replies;
    action = d.action;
    due = due-for (known port s e) m d.replies d.action c is yes_it one d.due;
    acted = d.acted;
    acts = d.acts;
    records = d.records;
    rules = d.rules;
    stamp = d.stamp;
    tells = d.tells;
    fits = d.fits;
    leaves = d.leaves;
  }

  -- only replies go out
  pub does-reply : (new : ServerEnd) (c : Command) → m.command ≡ command_number c → is_known (command_number c) ≡ true → command_at (command_number c) ≡ c → told_at m.p1 (command_number c) ≡ told.Quiet → Replies (DueFor c) e new → Does DueHere s h e m (effect.Quiet told.Quiet) s new
  does-reply new c is yes_it one quiet r = record {
    replies = r.replies;
    action = Nothing;
    due = due-for (known port s e) m r.replies Nothing c is yes_it one r.due;
    acted = e;
    acts = λ y same. refl;
    records = refl;
    rules = refl;
    stamp = refl;
    tells = quiet-told m (command_number c) is quiet;
    fits = tt;
    leaves = r.leaves;
  }

  pub does-version : (new : ServerEnd) → m.command ≡ command_number command.Version → new ≡ replied (if e.greeted then [] else version_reply ∷ []) (record e { greeted = true }) → Does DueHere s h e m (effect.Quiet told.Quiet) s new
  does-version new is done = record {
    replies = (if e.greeted then [] else version_reply ∷ []);
    action = Greets;
    due = due-for (known port s e) m (if e.greeted then [] else version_reply ∷ []) Greets command.Version is refl refl (refl, refl);
    acted = record e { greeted = true };
    acts = λ y same. refl;
    records = refl;
    rules = refl;
    stamp = refl;
    tells = refl;
    fits = tt;
    leaves = done;
  }

  -- a name of the peer, which counts unless it is settled
  pub does-name : (new : ServerEnd) (p : Peer) → told_at m.p1 m.command ≡ told.Quiet → ((a : Action) → a ≡ named (known port s e) p → DueHere [] a) → new ≡ (if e.settled then e else record e { peer = p }) → Does DueHere s h e m (effect.Quiet told.Quiet) s new
  does-name new p quiet due done = by e.settled refl
    where
      by : (b : Bool) → e.settled ≡ b → Does DueHere s h e m (effect.Quiet told.Quiet) s new
      by true is = record {
        replies = [];
        action = Nothing;
        due = due Nothing (sym (ap (λ (x : Bool). if x then Nothing else Names p) is));
        acted = e;
        acts = λ y same. refl;
        records = refl;
        rules = refl;
        stamp = refl;
        tells = quiet-told m m.command refl quiet;
        fits = tt;
        leaves = done ∙ ap (λ (x : Bool). if x then e else record e { peer = p }) is ∙ sym (replied-none e);
      }
      by false is = record {
        replies = [];
        action = Names p;
        due = due (Names p) (sym (ap (λ (x : Bool). if x then Nothing else Names p) is));
        acted = record e { peer = p };
        acts = λ y same. refl;
        records = refl;
        rules = refl;
        stamp = refl;
        tells = refl;
        fits = tt;
        leaves = done ∙ ap (λ (x : Bool). if x then e else record e { peer = p }) is ∙ sym (replied-none (record e { peer = p }));
      }

  pub does-user : (new : ServerEnd) → m.command ≡ command_number command.ClientName → new ≡ (if e.settled then e else record e { peer = record e.peer { user = text_in m.payload } }) → Does DueHere s h e m (effect.Quiet told.Quiet) s new
  does-user new is done =
      does-name new (record e.peer { user = text_in m.payload }) (ap (told_at m.p1) is) (λ a same. due-for (known port s e) m [] a command.ClientName is refl refl (refl, same)) done

  pub does-host : (new : ServerEnd) → m.command ≡ command_number command.HostName → new ≡ (if e.settled then e else record e { peer = record e.peer { host = text_in m.payload } }) → Does DueHere s h e m (effect.Quiet told.Quiet) s new
  does-host new is done =
      does-name new (record e.peer { host = text_in m.payload }) (ap (told_at m.p1) is) (λ a same. due-for (known port s e) m [] a command.HostName is refl refl (refl, same)) done

  pub does-echo : (new : ServerEnd) → m.command ≡ command_number command.Echo → new ≡ replied (header_only command.Echo ∷ []) e → Does DueHere s h e m (effect.Quiet told.Quiet) s new
  does-echo new is done =
      does-reply new command.Echo is refl refl refl (record { replies = header_only command.Echo ∷ []; due = (refl, refl); leaves = done })

  pub does-search : (new : ServerEnd) → m.command ≡ command_number command.Search → new ≡ replied (search_due (known port s e) m) e → Does DueHere s h e m (effect.Quiet told.Quiet) s new
  does-search new is done =
      does-reply new command.Search is refl refl refl (record { replies = search_due (known port s e) m; due = (refl, refl); leaves = done })

  pub does-create : (new : ServerEnd) (did : FollowUp) → m.command ≡ command_number command.CreateChannel → CreatesBy port s e m did new → Does DueHere s h e m did s new
  does-create new did is (c, tells) = record {
    replies = c.replies;
    action = c.action;
    due = due-for (known port s e) m c.replies c.action command.CreateChannel is refl refl c.due;
    acted = c.acted;
    acts = λ y same. c.acts y;
    records = c.quiet h;
    rules = refl;
    stamp = refl;
    tells = tells is;
    fits = c.fits is;
    leaves = c.leaves;
  }

  pub does-cancel : (new : ServerEnd) → m.command ≡ command_number command.EventCancel → new ≡ replied (cancel_reply m ∷ []) (without_subscriptions (same (key_in m)) e) → Does DueHere s h e m (effect.Quiet (told.Cancelled m.p1 m.p2)) s new
  does-cancel new is done = record {
    replies = cancel_reply m ∷ [];
    action = Drops (key_in m);
    due = due-for (known port s e) m (cancel_reply m ∷ []) (Drops (key_in m)) command.EventCancel is refl refl (refl, refl);
    acted = without_subscriptions (same (key_in m)) e;
    acts = λ y one. refl;
    records = refl;
    rules = refl;
    stamp = refl;
    tells = refl;
    fits = tt;
    leaves = done;
  }

  pub does-switch : (new : ServerEnd) (on : Bool) → DueHere [] (Switches on) → new ≡ with_events on e → Does DueHere s h e m (effect.Quiet (told.Switched on)) s new
  does-switch new on due done = record {
    replies = [];
    action = Switches on;
    due = due;
    acted = with_events on e;
    acts = λ y one. refl;
    records = refl;
    rules = refl;
    stamp = refl;
    tells = refl;
    fits = tt;
    leaves = done ∙ sym (replied-none (with_events on e));
  }

  pub does-off : (new : ServerEnd) → m.command ≡ command_number command.EventsOff → new ≡ with_events false e → Does DueHere s h e m (effect.Quiet (told.Switched false)) s new
  does-off new is done = does-switch new false (due-for (known port s e) m [] (Switches false) command.EventsOff is refl refl (refl, refl)) done

  pub does-on : (new : ServerEnd) → m.command ≡ command_number command.EventsOn → new ≡ with_events true e → Does DueHere s h e m (effect.Quiet (told.Switched true)) s new
  does-on new is done = does-switch new true (due-for (known port s e) m [] (Switches true) command.EventsOn is refl refl (refl, refl)) done

  pub does-clear : (t : Store) (new : ServerEnd) → m.command ≡ command_number command.ClearChannel → Withdraws h m.p1 s t → new ≡ replied (cleared_reply m ∷ []) (without_channel m.p1 e) → Does DueHere s h e m (effect.Quiet (told.Cleared m.p1)) t new
  does-clear t new is w done = record {
    replies = cleared_reply m ∷ [];
    action = Clears m.p1;
    due = due-for (known port s e) m (cleared_reply m ∷ []) (Clears m.p1) command.ClearChannel is refl refl (refl, refl);
    acted = without_channel m.p1 e;
    acts = λ y one. refl;
    records = w.records;
    rules = w.rules;
    stamp = w.stamp;
    tells = refl;
    fits = tt;
    leaves = done;
  }

  pub does-nothing : is_known m.command ≡ false → Does DueHere s h e m (effect.Quiet told.Quiet) s e
  does-nothing other = record {
    replies = [];
    action = Nothing;
    due = due-other (known port s e) m other;
    acted = e;
    acts = λ y one. refl;
    records = refl;
    rules = refl;
    stamp = refl;
    tells = quiet-told m m.command refl (none-told m.p1 m.command other);
    fits = tt;
    leaves = sym (replied-none e);
  }

-- a number that is no command's
all-of : {A : Type 0} (P : A → Type 0) → ((x : A) → P x) → (xs : List A) → All P xs
all-of P each [] = All-nil P
all-of P each (x ∷ xs) = All-cons P x xs (each x) (all-of P each xs)

abbrev commands : List Command
commands = command.Version ∷ command.EventAdd ∷ command.EventCancel ∷ command.Write ∷ command.Search ∷ command.EventsOff ∷ command.EventsOn ∷ command.ClearChannel ∷ command.ReadNotify ∷ command.CreateChannel ∷ command.WriteNotify ∷ command.ClientName ∷ command.HostName ∷ command.Echo ∷ []

pub not-a-command : (n : ℕ) → ((c : Command) → command_number c ≡ n → ⊥) → is_known n ≡ false
not-a-command n none =
    list_any_none (λ (c : Command). n == command_number c) commands (all-of (λ (c : Command). (n == command_number c) ≡ false) (λ c. ne_eqb n (command_number c) (λ e. none c (sym e))) commands)

-- a command that a server does not act on
pub other-command : (n : ℕ) (c : Command) → n ≡ command_number c → (c ≡ command.Version → ⊥) → (c ≡ command.EventAdd → ⊥) → (c ≡ command.EventCancel → ⊥) → (c ≡ command.Write → ⊥) → (c ≡ command.Search → ⊥) → (c ≡ command.EventsOff → ⊥) → (c ≡ command.EventsOn → ⊥) → (c ≡ command.ClearChannel → ⊥) → (c ≡ command.ReadNotify → ⊥) → (c ≡ command.CreateChannel → ⊥) → (c ≡ command.WriteNotify → ⊥) → (c ≡ command.ClientName → ⊥) → (c ≡ command.HostName → ⊥) → (c ≡ command.Echo → ⊥) → is_known n ≡ false
other-command n c is n0 n1 n2 n3 n4 n5 n6 n7 n8 n9 n10 n11 n12 n13 = ap is_known is ∙ by c refl
  where
    by : (d : Command) → c ≡ d → is_known (command_number d) ≡ false
    by command.Version e = absurd (n0 e)
    by command.EventAdd e = absurd (n1 e)
    by command.EventCancel e = absurd (n2 e)
    by command.Write e = absurd (n3 e)
    by command.Search e = absurd (n4 e)
    by command.EventsOff e = absurd (n5 e)
    by command.EventsOn e = absurd (n6 e)
    by command.ClearChannel e = absurd (n7 e)
    by command.ReadNotify e = absurd (n8 e)
    by command.CreateChannel e = absurd (n9 e)
    by command.WriteNotify e = absurd (n10 e)
    by command.ClientName e = absurd (n11 e)
    by command.HostName e = absurd (n12 e)
    by command.Echo e = absurd (n13 e)
    by command.Error e = refl
    by command.RsrvIsUp e = refl
    by command.NotFound e = refl
    by command.RepeaterConfirm e = refl
    by command.AccessRights e = refl
    by command.RepeaterRegister e = refl
    by command.CreateChannelFail e = refl
    by command.ServerDisconnect e = refl
