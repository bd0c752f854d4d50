-- A channel is live at its client until its SERVER_DISCONN is read.
use Rattle.std.proofs.Common.{◌≡◌, ℕ, inl, inr, List, [], ◌∷◌, refl, sym, ap, subst, ◌∙◌, arith}
use Rattle.std.specs.Prelude.{take}
use Rattle.ca_text.specs.Place.{At}
use Rattle.ca_records.specs.Record.{RecordState}
use Rattle.ca_model.specs.Speech.{In}
use Rattle.ca_model.specs.History.{Entry, Line, Sent, Told, Added, Removed, Opened}
use Rattle.ca_model.specs.Channels.{Has, IsNamed, IsOpen, IsUnread, IsUse, KeepNames}
use Rattle.ca_model.specs.Headline.{ActsOnRecord}
use Rattle.ca_requests.specs.Meaning.{Means}
use Rattle.ca_model.specs.Updates.{Shows}
use Rattle.ca_model_examples.specs.Worlds.{AnyDue, created_told, creating, disconnected, step, temp, temp_name}
use Rattle.ca_model_examples.specs.Safe.{unread, unread_entries, unread_lines}
use Rattle.ca_model_examples.proofs.Lists.{each-at, none-at, one-at, two-at}
use Rattle.ca_model_examples.proofs.UsedActs.{ask-of, channel-of, is-fine}

only-added : (r : ℕ) → In (Added 0 temp ∷ []) (Removed r) → ⊥
only-added r h = let e = (one-at (Added 0 temp) h.0 (Removed r) h.1).1 in cc

abbrev removed-in : Entry → ℕ
removed-in (Removed r) = r
removed-in e = 0

opened-at : (i channel : ℕ) (a : List ℕ) → At unread_lines i (Opened channel a) → i ≡ 0
opened-at i channel a at =
    each-at (λ (k : ℕ) (l : Line). l ≡ Opened channel a → k ≡ 0) unread_lines ((λ e. refl), ((λ e. absurd cc), tt)) i _ at refl

added-at : (i r : ℕ) (a : RecordState) → At unread_entries i (Added r a) → i ≡ 0
added-at i r a at =
    each-at (λ (k : ℕ) (e : Entry). e ≡ Added r a → k ≡ 0) unread_entries ((λ e. refl), ((λ e. absurd cc), tt)) i _ at refl

removed-at : (i r : ℕ) → At unread_entries i (Removed r) → (i ≡ 1) × (r ≡ 0)
removed-at i r at =
    each-at (λ (k : ℕ) (e : Entry). e ≡ Removed r → (k ≡ 1) × (r ≡ 0)) unread_entries ((λ e. absurd cc), ((λ e. (refl, ap removed-in (sym e))), tt)) i _ at refl

there : Has (Added 0 temp ∷ []) 0 temp_name
there = (temp, (0, refl), refl, (λ h. only-added 0 h))

unread-names : KeepNames unread_lines unread_entries
unread-names = record {
  one_name = λ i j channel a b p q. opened-at i channel a p ∙ sym (opened-at j channel b q);
  one_record = λ i j r a b p q. added-at i r a p ∙ sym (added-at j r b q);
  one_at_once = λ i r q s at has. (let none = subst (λ (z : ℕ). Has (take z unread_entries) q s.name) (added-at i r s at) has in none-at none.1.0 _ none.1.1);
  was_there = λ i r at. (let e = removed-at i r at in subst (λ (z : ℕ). (name : List ℕ) × Has (take z unread_entries) r name) (sym e.0) (subst (λ (z : ℕ). (name : List ℕ) × Has (take 1 unread_entries) z name) (sym e.1) (temp_name, there)));
}

-- the channel is open at the server
is-open : IsOpen unread unread_entries 0 0 5 0
is-open = (
  (created_told, creating, step 0 1 1, refl, refl, refl, (refl, refl), refl, refl, there, (refl, refl)),
  (λ i t after at creates. elim (two-at created_told disconnected i t at) [
    | inl e ↦ (let f = e.0 in omega (arith, f, after))
    | inr e ↦ (let f = ap (λ (u : Told). u.message.command) e.1 in let g = creates.0 in omega (arith, f, g))
  ]),
  (λ l m after early at clears. let e = (one-at creating l m at).0 in omega (arith, e, after)),
)

-- what the clause says of a live channel here: its SERVER_DISCONN is unread
abbrev Stays : (channel j k sid : ℕ) → Type 0
Stays channel j k sid = IsOpen unread unread_entries j k sid 0 × IsNamed unread_lines unread_entries channel 0 × IsUnread unread k

stays : Stays 0 0 0 5
stays = (is-open, (temp, (0, refl), (0, refl)), (1, disconnected, refl, refl, refl, omega arith))

stays-so : (channel j k sid : ℕ) → channel ≡ 0 → j ≡ 0 → k ≡ 0 → sid ≡ 5 → Stays channel j k sid
stays-so channel j k sid c p q s =
    subst (λ (z : ℕ). Stays z j k sid) (sym c) (subst (λ (z : ℕ). Stays 0 z k sid) (sym p) (subst (λ (z : ℕ). Stays 0 0 z sid) (sym q) (subst (λ (z : ℕ). Stays 0 0 0 z) (sym s) stays)))

pub unread-acts : ActsOnRecord AnyDue Shows Means 0 unread unread_lines unread_entries
unread-acts = record {
  acts = λ k channel ask early meant other.
      (let is = (one-at creating k meant.0 meant.1).1 in
      absurd (other (ap ask-of (sym meant.2 ∙ ap (λ (s : Sent). s.intent) is))));
  retired = λ k j r h bad acted at.
      elim (two-at created_told disconnected j _ bad.1) [
        | inl e ↦
            let fine = ap (λ (t : Told). t.message.p1) e.1 in
            let other = ap (λ (t : Told). t.message.command) e.1 in
            absurd (is-fine bad.0 _ fine (λ f. omega (arith, f, other)) bad.2)
        | inr e ↦ (let f = ap (λ (t : Told). t.cause) e.1 in absurd cc)
      ];
  refused = λ k j r m s h here at uses acted handled gone.
      absurd (subst (λ (z : Sent). IsUse z.intent) (one-at creating k s at).1 uses);
  live = λ channel j k sid l.
      (let sent = one-at creating k l.1.0 l.1.1 in
      let early = l.6 in
      let first : j ≡ 0 = omega (arith, early) in
      let told : l.0 ≡ created_told = elim (two-at created_told disconnected j l.0 l.2) [ inl e ↦ e.1 | inr e ↦ (let f = e.0 in absurd (omega (arith, f, first))) ] in
      let sid-is : sid ≡ 5 = sym l.5.1 ∙ ap (λ (t : Told). t.message.p2) told in
      let channel-is : channel ≡ 0 = ap channel-of (sym l.1.2 ∙ ap (λ (s : Sent). s.intent) sent.1) in
      let h = stays-so channel j k sid channel-is first sent.0 sid-is in
      (0, h.0, h.1, (λ up. inr h.2)));
  names = unread-names;
}
