-- What refuses the line of a client.
use Rattle.std.proofs.Common.{◌≡◌, ◌<◌, ◌≤◌, ℕ, List, ◌∷◌, length, sym, ap, ◌∙◌, subst, arith}
use Rattle.std.specs.Prelude.{Ok, Err}
use Rattle.ca_text.specs.Limits.{arena_slots}
use Rattle.ca_text.specs.declared.refusal.Refusal.{Refusal}
use Rattle.ca_text.specs.declared.refusal.Refusal.TheVariants as refusal
use Rattle.ca_model.specs.ClientEnds.{distinct}
use Rattle.ca_model.specs.Ends.{Address, NamesFit, Peer}
use Rattle.ca_model.specs.World.{ClientSetting}
use Rattle.ca_script.specs.Grammar.{Refuses}
use Rattle.ca_script.specs.Lines.{AreEach}
use Rattle.ca_script.proofs.Refusals.{refuses-whole}
use Rattle.ca_world_data.specs.Settings.{MakesClient}
use Rattle.ca_world_script.specs.Lines.{IsAddress, SaysClient}
use Rattle.ca_world_script.proofs.Same.{same-addresses}

-- the addresses of its name servers
addresses-of : (words a names : List (List ℕ)) (user host : List ℕ) (c : ClientSetting) → words ≡ user ∷ a → a ≡ host ∷ names → SaysClient words c → AreEach IsAddress names c.name_servers
addresses-of words a names user host c first second h =
    let same : h.names ≡ names = cc (h.are) in
    subst (λ (ws : List (List ℕ)). AreEach IsAddress ws c.name_servers) same h.addresses

pub client-unread : (words a names : List (List ℕ)) (user host : List ℕ) (e : Refusal) → words ≡ user ∷ a → a ≡ host ∷ names → Refuses (AreEach IsAddress names) e → Refuses (SaysClient words) e
client-unread words a names user host e first second nay =
    refuses-whole (AreEach IsAddress names) (SaysClient words) e
    (λ (c : ClientSetting) (h : SaysClient words c). (c.name_servers, addresses-of words a names user host c first second h)) nay

fits-too : (words a names : List (List ℕ)) (user host : List ℕ) (c : ClientSetting) → words ≡ user ∷ a → a ≡ host ∷ names → SaysClient words c → NamesFit (record { user = user; host = host })
fits-too words a names user host c first second h =
    let u : c.peer.user ≡ user = cc (h.are) in
    let v : c.peer.host ≡ host = cc (h.are) in
    subst (λ (p : Peer). NamesFit p) (λ i. record { user = u i; host = v i }) h.fits

crowded : (words a names : List (List ℕ)) (user host : List ℕ) (items : List Address) → words ≡ user ∷ a → a ≡ host ∷ names → AreEach IsAddress names items → arena_slots < length (distinct items) → (c : ClientSetting) → SaysClient words c → ⊥
crowded words a names user host items first second said many c h =
    let same : c.name_servers ≡ items = same-addresses names c.name_servers items (addresses-of words a names user host c first second h) said in
    let few = subst (λ (xs : List Address). length (distinct xs) ≤ arena_slots) same h.few in
    absurd (omega (arith, few, many))

unfit : (words a names : List (List ℕ)) (user host : List ℕ) (items : List Address) (e : Refusal) → words ≡ user ∷ a → a ≡ host ∷ names → AreEach IsAddress names items → MakesClient (record { peer = record { user = user; host = host }; name_servers = items }) (Err e) → (c : ClientSetting) → SaysClient words c → ⊥
unfit words a names user host items refusal.NameLength first second said nay c h = nay (fits-too words a names user host c first second h)
unfit words a names user host items refusal.ArenaFull first second said nay c h = crowded words a names user host items first second said nay.1 c h
unfit words a names user host items _ first second said nay c h = absurd nay

-- the names do not fit, or there are more name servers than circuits may be
pub client-unfit : (words a names : List (List ℕ)) (user host u v : List ℕ) (items : List Address) (e : Refusal) → words ≡ user ∷ a → a ≡ host ∷ names → AreEach IsAddress names items → u ≡ user → v ≡ host → MakesClient (record { peer = record { user = u; host = v }; name_servers = items }) (Err e) → (c : ClientSetting) → SaysClient words c → ⊥
client-unfit words a names user host u v items e first second said of_user of_host nay =
    unfit words a names user host items e first second said
    (subst (λ (p : Peer). MakesClient (record { peer = p; name_servers = items }) (Err e)) (λ i. record { user = of_user i; host = of_host i }) nay)

-- the words that were read are this client
pub client-said : (words a names : List (List ℕ)) (user host u v : List ℕ) (items : List Address) (made : ClientSetting) → (words ≡ user ∷ a) × (0 < length user) → (a ≡ host ∷ names) × (0 < length host) → AreEach IsAddress names items → u ≡ user → v ≡ host → MakesClient (record { peer = record { user = u; host = v }; name_servers = items }) (Ok made) → SaysClient words made
client-said words a names user host u v items made first second said of_user of_host does =
    let given : ClientSetting = record { peer = record { user = u; host = v }; name_servers = items } in
    let here : SaysClient words given = record {
      names = names;
      are = first.0 ∙ ap (λ (ws : List (List ℕ)). user ∷ ws) second.0 ∙ (λ i. sym of_user i ∷ sym of_host i ∷ names);
      some = (subst (λ (w : List ℕ). 0 < length w) (sym of_user) first.1, subst (λ (w : List ℕ). 0 < length w) (sym of_host) second.1);
      fits = does.0.0;
      addresses = said;
      few = does.0.1;
    } in
    subst (λ (c : ClientSetting). SaysClient words c) (sym does.1) here
