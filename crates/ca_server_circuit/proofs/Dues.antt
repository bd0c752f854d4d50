-- What is due for a message, by its command; and that there may be no memory for
-- one that is answered.
use Rattle.std.proofs.Common.{◌≡◌, ◌≢◌, ℕ, ◌⊎◌, inl, inr, ◌==◌, Bool, true, false, List, [], ◌∷◌, if◌then◌else◌, refl, sym, ap, ◌∙◌, subst}
use Rattle.ca_text.specs.Command.{command_number}
use Rattle.ca_text.specs.declared.command.Command.{Command}
use Rattle.ca_text.specs.declared.command.Command.TheVariants as command
use Rattle.ca_wire.specs.Fields.{Fields}
use Rattle.ca_wire.specs.Messages.{header_only, cancel_reply, cleared_reply, status_reply, text_in, version_reply}
use Rattle.ca_text.specs.Status.{bad_channel}
use Rattle.ca_model.specs.Due.{Action, Adds, Applies, Clears, Drops, Due, Greets, IsCreated, IsNotCreated, Knows, Names, Nothing, Opens, ReadDue, StrayDue, Switches, Waits, is_known, key_in, named, search_due}
use Rattle.ca_model.specs.ServerSteps.{NeedsMemory}
use Rattle.ca_server_circuit.specs.Handling.{Creates, MayLack, Puts, Reads, Subscribes, Writes}

-- the command of this number, of those that a server acts on
abbrev pub command_at : ℕ → Command
command_at n =
    if n == 0 then command.Version else if n == 1 then command.EventAdd else if n == 2 then command.EventCancel else if n == 4 then command.Write else if n == 6 then command.Search else if n == 8 then command.EventsOff else if n == 9 then command.EventsOn else if n == 12 then command.ClearChannel else if n == 15 then command.ReadNotify else if n == 18 then command.CreateChannel else if n == 19 then command.WriteNotify else if n == 20 then command.ClientName else if n == 21 then command.HostName else if n == 23 then command.Echo else command.Error

-- what has to be shown for this command
abbrev pub IsDueFor : Knows → Fields → List Fields → Action → Command → Type 0
IsDueFor k m r a command.Version = (r ≡ (if k.greeted then [] else version_reply ∷ [])) × (a ≡ Greets)
IsDueFor k m r a command.ClientName = (r ≡ []) × (a ≡ named k (record k.peer { user = text_in m.payload }))
IsDueFor k m r a command.HostName = (r ≡ []) × (a ≡ named k (record k.peer { host = text_in m.payload }))
IsDueFor k m r a command.Echo = (r ≡ header_only command.Echo ∷ []) × (a ≡ Nothing)
IsDueFor k m r a command.Search = (r ≡ search_due k m) × (a ≡ Nothing)
IsDueFor k m r a command.CreateChannel = Creates k m r a
IsDueFor k m r a command.ReadNotify = Reads k m r a
IsDueFor k m r a command.Write = Writes k m r a
IsDueFor k m r a command.WriteNotify = Puts k m r a
IsDueFor k m r a command.EventAdd = Subscribes k m r a
IsDueFor k m r a command.EventCancel = (r ≡ cancel_reply m ∷ []) × (a ≡ Drops (key_in m))
IsDueFor k m r a command.EventsOff = (r ≡ []) × (a ≡ Switches false)
IsDueFor k m r a command.EventsOn = (r ≡ []) × (a ≡ Switches true)
IsDueFor k m r a command.ClearChannel = (r ≡ cleared_reply m ∷ []) × (a ≡ Clears m.p1)
IsDueFor k m r a _ = Unit {0}

pub due-of : (k : Knows) (m : Fields) (r : List Fields) (a : Action) → IsDueFor k m r a (command_at m.command) → (is_known m.command ≡ false → (r ≡ []) × (a ≡ Nothing)) → Due k m r a
due-of k m r a h other =
    let here : (c : Command) → m.command ≡ command_number c → IsDueFor k m r a (command_at (command_number c)) = λ c e. subst (λ (n : ℕ). IsDueFor k m r a (command_at n)) e h in
    record {
      version = here command.Version;
      user = here command.ClientName;
      host = here command.HostName;
      echo = here command.Echo;
      search = here command.Search;
      create = here command.CreateChannel;
      read = here command.ReadNotify;
      write = here command.Write;
      put = here command.WriteNotify;
      subscribe = here command.EventAdd;
      cancel = here command.EventCancel;
      off = here command.EventsOff;
      on = here command.EventsOn;
      clear = here command.ClearChannel;
      other = other;
    }

not-known : {A : Type 0} (n : ℕ) (c : Command) → n ≡ command_number c → is_known (command_number c) ≡ true → is_known n ≡ false → A
not-known n c is yes_it no_it = absurd (both (is_known n) (ap is_known is ∙ yes_it) no_it)
  where
    both : (b : Bool) → b ≡ true → b ≡ false → ⊥
    both b t f = cc

-- what is due for the message of a command that is known
pub due-for : (k : Knows) (m : Fields) (r : List Fields) (a : Action) (c : Command) → m.command ≡ command_number c → is_known (command_number c) ≡ true → command_at (command_number c) ≡ c → IsDueFor k m r a c → Due k m r a
due-for k m r a c is yes_it same h =
    due-of k m r a
    (subst (λ (n : ℕ). IsDueFor k m r a (command_at n)) (sym is) (subst (λ (d : Command). IsDueFor k m r a d) (sym same) h))
    (λ no_it. not-known m.command c is yes_it no_it)

-- a command that is known is not another
no-other : {A : Type 0} (n : ℕ) (c : Command) → is_known n ≡ false → is_known (command_number c) ≡ true → n ≡ command_number c → A
no-other n c other yes_it is = not-known n c is yes_it other

-- nothing is due for any other command
pub due-other : (k : Knows) (m : Fields) → is_known m.command ≡ false → Due k m [] Nothing
due-other k m other =
    record {
      version = λ is. no-other m.command command.Version other refl is;
      user = λ is. no-other m.command command.ClientName other refl is;
      host = λ is. no-other m.command command.HostName other refl is;
      echo = λ is. no-other m.command command.Echo other refl is;
      search = λ is. no-other m.command command.Search other refl is;
      create = λ is. no-other m.command command.CreateChannel other refl is;
      read = λ is. no-other m.command command.ReadNotify other refl is;
      write = λ is. no-other m.command command.Write other refl is;
      put = λ is. no-other m.command command.WriteNotify other refl is;
      subscribe = λ is. no-other m.command command.EventAdd other refl is;
      cancel = λ is. no-other m.command command.EventCancel other refl is;
      off = λ is. no-other m.command command.EventsOff other refl is;
      on = λ is. no-other m.command command.EventsOn other refl is;
      clear = λ is. no-other m.command command.ClearChannel other refl is;
      other = λ is. (refl, refl);
    }

-- ---- memory may lack

module _ (m : Fields) where
  needs-some : (r : List Fields) (a : Action) → r ≢ [] → NeedsMemory m r a
  needs-some r (Applies n v b) h = tt
  needs-some r (Waits n v) h = tt
  needs-some r (Adds s) h = tt
  needs-some r Nothing h = h
  needs-some r Greets h = h
  needs-some r (Names p) h = inr h
  needs-some r (Opens c) h = h
  needs-some r (Clears n) h = h
  needs-some r (Drops x) h = h
  needs-some r (Switches b) h = h

  some-reply : (x : Fields) (xs : List Fields) → x ∷ xs ≡ [] → ⊥
  some-reply x xs e = cc

  needs : (r : List Fields) (a : Action) (x : Fields) (xs : List Fields) → r ≡ x ∷ xs → NeedsMemory m r a
  needs r a x xs is = needs-some r a (λ e. some-reply x xs (sym is ∙ e))

  stray-needs : (k : Knows) (reply : ℕ → Fields) (r : List Fields) (a : Action) → StrayDue k m reply r a → NeedsMemory m r a
  stray-needs k reply r a s = needs r a (reply s.0) [] s.2

  pub lack-create : (k : Knows) → m.command ≡ command_number command.CreateChannel → MayLack k m
  lack-create k is r a due = by (due.create is)
    where
      by : IsCreated k m r a ⊎ IsNotCreated k m r a → NeedsMemory m r a
      by (inl c) = needs-some r a (λ e. some-reply _ _ (sym c.are ∙ e))
      by (inr c) = needs-some r a (λ e. some-reply _ _ (sym c.are ∙ e))

  pub lack-read : (k : Knows) → m.command ≡ command_number command.ReadNotify → MayLack k m
  lack-read k is r a due = by (due.read is)
    where
      by : ReadDue k m r a ⊎ StrayDue k m (λ cid. status_reply m bad_channel) r a → NeedsMemory m r a
      by (inl d) = elim d.2 [
        | inl h ↦ needs-some r a (λ e. some-reply _ _ (sym h.2 ∙ e))
        | inr h ↦ needs-some r a (λ e. some-reply _ _ (sym h.1.4 ∙ e))
      ]
      by (inr s) = stray-needs k (λ cid. status_reply m bad_channel) r a s
