-- Numbers that no message carries are none that one does.
use Rattle.std.proofs.Common.{◌≡◌, ◌≢◌, ℕ, ◌<◌, inl, inr, List, [], Result, Ok, Err, arith, refl, subst, sym}
use Rattle.ca_text.specs.Name.{IsName}
use Rattle.ca_text.specs.Limits.{channel_name_limit, priority_limit}
use Rattle.ca_text.specs.declared.refusal.Refusal.{Refusal}
use Rattle.ca_text.specs.declared.refusal.Refusal.TheVariants as refusal
use Rattle.ca_model.specs.Client.{Client}
use Rattle.ca_model.specs.ClientCalls.{ClientOpens, Opening, Shape}
use Rattle.ca_model.specs.History.{Line}
use Rattle.ca_model.specs.World.{ClientSide}
use Rattle.ca_world_data.specs.Opens.{OpensOn}
use Rattle.ca_world.specs.Wide.{IsPriority, IsWide}

pub not-wide : (a : Shape) → IsWide a → a.data_type < 65536 → a.count < 4294967296 → ⊥
not-wide a (inl wide) t n = absurd (omega (arith, wide, t))
not-wide a (inr wide) t n = absurd (omega (arith, wide, n))

-- a channel of a priority that is too great is refused as one of any such
wide-refused : (x : Client) (a b : Opening) (e : Refusal) → b.name ≡ a.name → priority_limit < a.priority → priority_limit < b.priority → e ≢ refusal.OutOfMemory → ClientOpens x b (Err e) [] x → ClientOpens x a (Err e) [] x
wide-refused x a b refusal.NameLength same over more other r = (λ is. r.0 (subst (IsName channel_name_limit) (sym same) is), r.1)
wide-refused x a b refusal.BadPriority same over more other r = (subst (IsName channel_name_limit) same r.0, over, r.2)
wide-refused x a b refusal.ArenaFull same over more other r = absurd (omega (arith, more, r.0.1))
wide-refused x a b refusal.OutOfMemory same over more other r = absurd (other refl)
wide-refused x a b e same over more other r = absurd r

-- a call with another priority that is too great leaves the same
pub opens-wide : (name : List ℕ) (now p own : ℕ) → IsPriority p own → (x x' : ClientSide) (logs logs' : List (List Line)) (r : Result (Unit {0}) Refusal) → OpensOn (record { name = name; priority = own; now = now }) x logs r x' logs' → OpensOn (record { name = name; priority = p; now = now }) x logs r x' logs'
opens-wide name now p own (inl is) x x' logs logs' r d = subst (λ (n : ℕ). OpensOn (record { name = name; priority = n; now = now }) x logs r x' logs') is d
opens-wide name now p own (inr over) x x' logs logs' (Ok u) (inl r) =
    inl (record {
      e = r.e;
      other = r.other;
      refused = wide-refused x.core (record { name = name; priority = p; now = now }) (record { name = name; priority = own; now = now }) r.e refl over.0 over.1 r.other r.refused;
      side = r.side;
      logged = r.logged;
    })
opens-wide name now p own (inr over) x x' logs logs' (Ok u) (inr d) = (let few = d.opens.0.1 in absurd (omega (arith, few, over.1)))
opens-wide name now p own (inr over) x x' logs logs' (Err refusal.OutOfMemory) d = d
opens-wide name now p own (inr over) x x' logs logs' (Err _) d = absurd d
