-- What is told of a message that does nothing.
use Rattle.std.proofs.Common.{◌≡◌, ℕ, ◌==◌, ◌||◌, Bool, true, false, if◌then◌else◌, refl, sym, ap, ◌∙◌}
use Rattle.std.proofs.lemmas.Bool.{ne_eqb}
use Rattle.ca_text.specs.Command.{command_number}
use Rattle.ca_text.specs.declared.command.Command.{Command}
use Rattle.ca_text.specs.declared.command.Command.TheVariants as command
use Rattle.ca_wire.specs.Fields.{Fields}
use Rattle.ca_model.specs.Due.{Nothing, is_known}
use Rattle.ca_server_circuit.specs.declared.effect.Effect.{Effect}
use Rattle.ca_server_circuit.specs.declared.effect.Effect.TheVariants as told
use Rattle.ca_server_circuit.specs.declared.step.FollowUp.TheVariants as effect
use Rattle.ca_server_circuit.specs.Effects.{effect_due}
use Rattle.ca_server_circuit.specs.Peeking.{is_write}

-- by whether it is a CREATE_CHAN, or a write
abbrev by_kind : (sid : ℕ) → (creates writes : Bool) → Effect
by_kind sid creates writes = if creates then told.Refused else if writes then told.WriteRefused sid else told.Quiet

-- by its command
abbrev pub told_at : (sid n : ℕ) → Effect
told_at sid n = by_kind sid (n == command_number command.CreateChannel) (is_write n)

-- a message of this command
pub nothing-told : (m : Fields) (n : ℕ) → m.command ≡ n → effect.Quiet (told_at m.p1 n) ≡ effect.Quiet (effect_due m Nothing)
nothing-told m n is = sym (ap (λ (k : ℕ). effect.Quiet (told_at m.p1 k)) is)

-- one of which nothing is told
pub quiet-told : (m : Fields) (n : ℕ) → m.command ≡ n → told_at m.p1 n ≡ told.Quiet → effect.Quiet told.Quiet ≡ effect.Quiet (effect_due m Nothing)
quiet-told m n is quiet = sym (ap (λ (e : Effect). effect.Quiet e) quiet) ∙ nothing-told m n is

both : (b : Bool) → b ≡ true → b ≡ false → ⊥
both b t f = cc

-- a command that a server does not act on is another
other-than : (n : ℕ) (c : Command) → is_known n ≡ false → is_known (command_number c) ≡ true → (n == command_number c) ≡ false
other-than n c other acts = ne_eqb n (command_number c) (λ e. both (is_known n) (ap is_known e ∙ acts) other)

-- of such a one nothing is told
pub none-told : (sid n : ℕ) → is_known n ≡ false → told_at sid n ≡ told.Quiet
none-told sid n other =
    ap (λ (b : Bool). by_kind sid b (is_write n)) (other-than n command.CreateChannel other refl)
    ∙ ap (λ (b : Bool). by_kind sid false (b || n == command_number command.WriteNotify)) (other-than n command.Write other refl)
    ∙ ap (λ (b : Bool). by_kind sid false b) (other-than n command.WriteNotify other refl)
