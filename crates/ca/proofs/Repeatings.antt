-- Rounds of the repeater, as its loops keep them.
use Rattle.std.proofs.Common.{◌≡◌, ℕ, ◌<◌, ◌+◌, suc, List, not, Ok, Err, Vec, inr, ap, subst, ◌∙◌, arith}
use Rattle.std.specs.Prelude.{filter}
use Rattle.std.specs.declared.alloc.Global.{Global}
use Rattle.ca_text.specs.declared.refusal.Refusal.{Refusal}
use Rattle.ca_text.specs.declared.refusal.Refusal.TheVariants.{Device, OutOfMemory}
use Rattle.ca_repeat.specs.declared.address.UdpAddress.{UdpAddress}
use Rattle.ca_repeat.specs.Addresses.{same}
use Rattle.ca_repeat.specs.Sent.{Sent}
use Rattle.ca_repeat.specs.Fan.{Receives}
use Rattle.ca.specs.Repeating.{Repeats, Round, Rounds, Sends, SendsOne, Takes}

module _ {D : Type 0} (went refuses : D → UdpAddress → List ℕ → D → Type 0) where
  pub sends-refused : (s : D) (members : List UdpAddress) (d : Sent) (t : D) (after : List UdpAddress) (to member : UdpAddress) (bytes : List ℕ) → to ≡ d.to → bytes ≡ d.bytes → member ≡ d.to → refuses s to bytes t → after ≡ filter (λ m. not (same m member)) members → SendsOne went refuses s members d t after
  sends-refused s members d t after to member bytes a b c refused dropped = inr (
    subst (λ (x : UdpAddress). refuses s x d.bytes t) a (subst (λ (y : List ℕ). refuses s to y t) b refused),
    dropped ∙ ap (λ (x : UdpAddress). filter (λ m. not (same m x)) members) c,
  )

  module _ (came : D → UdpAddress → List ℕ → D → Type 0) where
    pub made-round : (s got t : D) (members enrolled after : List UdpAddress) (from : UdpAddress) (bytes : List ℕ) (sends : Vec Sent Global) (ds : List Sent) → came s from bytes got → Receives members from bytes (Ok sends) enrolled → ds ≡ sends.items → Sends went refuses got enrolled ds t after → Round went refuses came s members t after
    made-round s got t members enrolled after from bytes sends ds came_in receives same_sends sent = record {
      from = from;
      bytes = bytes;
      got = got;
      came_in = came_in;
      sends = sends;
      enrolled = enrolled;
      receives = receives;
      sent = subst (λ (xs : List Sent). Sends went refuses got enrolled xs t after) same_sends sent;
    }

    pub round-more : (i : ℕ) (s0 mid s : D) (known members : List UdpAddress) → Rounds went refuses came i s0 mid known → Round went refuses came mid known s members → Rounds went refuses came (i + 1) s0 s members
    round-more i s0 mid s known members before now =
        let next : suc i ≡ i + 1 = omega arith in subst (λ (k : ℕ). Rounds went refuses came k s0 s members) next (mid, known, before, now)

    pub rounds-all : (i n : ℕ) (s0 s : D) (members : List UdpAddress) → i ≡ n → Rounds went refuses came i s0 s members → Rounds went refuses came n s0 s members
    rounds-all i n s0 s members same_number before = subst (λ (k : ℕ). Rounds went refuses came k s0 s members) same_number before

    module _ (fails : D → D → Type 0) where
      pub breaks-off : (e : Refusal) (n i : ℕ) (s0 mid s : D) (members after : List UdpAddress) → i < n → Rounds went refuses came i s0 mid members → Takes went refuses came fails mid members (Err e) s after → Repeats went refuses came fails n s0 (Err e) s
      breaks-off Device n i s0 mid s members after below before takes = (i, mid, members, below, before, takes)
      breaks-off OutOfMemory n i s0 mid s members after below before takes = inr (i, mid, members, after, below, before, takes)
      breaks-off _ n i s0 mid s members after below before takes = absurd takes
