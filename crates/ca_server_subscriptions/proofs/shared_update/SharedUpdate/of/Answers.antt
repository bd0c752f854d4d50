use Rattle.std.proofs.Common.{◌≡◌, ◌≤◌, ◌∙◌, ℕ, List, Ok, ap, subst, sym}
use Rattle.ca_text.specs.Limits.{element_limit}
use Rattle.ca_text.specs.Status.{normal}
use Rattle.ca_dbr.specs.Elements.{Elements, count_of}
use Rattle.ca_wire.specs.Fields.{Fields}
use Rattle.ca_wire.specs.Made.{Makes}
use Rattle.ca_wire.specs.Messages.{update}
use Rattle.ca_server_subscriptions.specs.Imaging.{shown_image}
use Rattle.ca_server_subscriptions.specs.Sharing.{IsUpdateOf}
use Rattle.ca_server_subscriptions.proofs.shared_update.SharedUpdate.of.Goals as goal

pub invariant_of-shared : goal.invariant_of-shared
invariant_of-shared c =
    let h = c.args.held.now in
    let m = c.args.meta.now in
    let n = c.args.data_type in
    let count = c.args.count in
    let bytes = c.write_image.new.out.items in
    let made = subst (λ (b : List ℕ). Makes (shown_image n count h m) b (Ok tt) bytes) c.new-image.ensures.items c.in-Ok.ensures in
    let same : h ≡ c.in-Ok-copy.held = sym c.in-Ok-copy.ensures.ok in
    let said : c.in-Ok-new.update ≡ update n count normal 0 bytes =
    c.in-Ok-new.ensures.1 ∙ ap (λ (k : ℕ). record (update n count normal 0 bytes) { command = k }) c.number-command.ensures in
    let is : IsUpdateOf (record { value = c.in-Ok-copy.held; meta = m }) (update n count normal 0 bytes) = (
      made.0,
      subst (λ (x : Elements). shown_image n count x m ≡ Ok made.0) same made.1,
      ap (λ (b : List ℕ). update n count normal 0 b) made.2,
    ) in (
      subst (λ (x : Elements). count_of x ≤ element_limit) (sym c.in-Ok-copy.ensures.ok) c.requires,
      subst (λ (f : Fields). IsUpdateOf (record { value = c.in-Ok-copy.held; meta = m }) f) (sym said) is,
    )
