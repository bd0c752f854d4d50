-- What is asked of a circuit before its next message is handled, and of its channels by their SIDs.
use Rattle.std.proofs.Common.{◌≡◌, ℕ, ◌≤◌, true, false, List, length, Option, Some, None, sym, ap, ◌∙◌, subst}
use Rattle.ca_arena.specs.declared.handle.Handle.{Handle}
use Rattle.ca_ids.specs.Table.{Table, by_wire, held}
use Rattle.ca_ids.specs.Wire.{wire_of}
use Rattle.ca_text.specs.Limits.{arena_slots}
use Rattle.ca_text.specs.declared.command.Command.TheVariants as command
use Rattle.ca_text.proofs.Places.{some_is}
use Rattle.ca_wire.specs.Fields.{Fields}
use Rattle.ca_wire.specs.declared.header.Header.{Header}
use Rattle.ca_model.specs.Server.{OpenChannel}
use Rattle.ca_model.specs.Speech.{In}
use Rattle.ca_server_circuit.proofs.Tables.{listed-under, none-some, under-listed, under-wire, wire-under}

-- ---- by SID

module _ (t : Table OpenChannel) (sid : ℕ) (few : length t ≤ arena_slots) where
  -- whatever is listed under the SID is what the SID finds
  listed-wire : (c : Handle × OpenChannel) → In (held t) c → wire_of c.0 ≡ sid → by_wire t sid ≡ Some c
  listed-wire c there is =
      subst (λ (n : ℕ). by_wire t n ≡ Some c) is (under-wire t c.0 c.1 few (listed-under t there.0 c.0 c.1 there.1))

  pub found-sid : (c : Handle × OpenChannel) (name : List ℕ) → Some c ≡ by_wire t sid → name ≡ c.1.name → c.1.retired ≡ false
      → ((x : Handle × OpenChannel) × In (held t) x × (wire_of x.0 ≡ sid) × (x.1.retired ≡ false)) × ((x : Handle × OpenChannel) → In (held t) x → wire_of x.0 ≡ sid → x.1.retired ≡ false → x.1.name ≡ name)
  found-sid c name found named lives =
      let u = wire-under t sid c (sym found) in
      ((c, under-listed t c.0 c.1 u.0, u.1, lives), λ x there is stays. ap (λ (y : Handle × OpenChannel). y.1.name) (some_is x c (sym (listed-wire x there is) ∙ sym found)) ∙ sym named)

  pub no-sid : (let none : Option (Handle × OpenChannel) = None in none ≡ by_wire t sid) → (x : Handle × OpenChannel) → In (held t) x → wire_of x.0 ≡ sid → x.1.retired ≡ false → ⊥
  no-sid none x there is stays = none-some x (none ∙ listed-wire x there is)

  -- the record of the one channel was removed
  pub retired-sid : (c : Handle × OpenChannel) → Some c ≡ by_wire t sid → c.1.retired ≡ true → (x : Handle × OpenChannel) → In (held t) x → wire_of x.0 ≡ sid → x.1.retired ≡ false → ⊥
  retired-sid c found gone x there is stays =
      true-not-false (sym gone ∙ ap (λ (y : Handle × OpenChannel). y.1.retired) (some_is c x (found ∙ listed-wire x there is)) ∙ stays)
    where
      true-not-false : true ≡ false → ⊥
      true-not-false same = cc
