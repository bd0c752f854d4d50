-- How the ends of a circuit may go on: bytes come, a message is read, more is
-- sent, and an end ends.
use Rattle.std.proofs.Common.{◌≡◌, ℕ, zero, suc, ◌+◌, ◌≤◌, ◌<◌, ◌⊎◌, inl, inr, Bool, true, false, List, [], ◌∷◌, ◌++◌, refl, sym, ap, ◌∙◌, subst, arith, append_assoc}
use Rattle.std.specs.Prelude.{drop, length, take}
use Rattle.std.proofs.lemmas.Bool.{both_ways}
use Rattle.std.proofs.lemmas.List.{append-nil, length-append, take-append-drop}
use Rattle.ca_text.specs.Place.{At}
use Rattle.ca_text.proofs.Places.{At-append, At-or, At-within, some_is}
use Rattle.ca_wire.specs.Fields.{Fields}
use Rattle.ca_wire.specs.Message.{Spells, spelled, spelling}
use Rattle.ca_wire.proofs.Messages.{spelling-spells, spells-front, spells-long}
use Rattle.ca_laws_parts.specs.Streams.{AreMessages, CircuitEnd, Meets, Streams}

-- ---- lists

drop-at : {A : Type 0} (xs : List A) (n : ℕ) (x : A) → At xs n x → drop n xs ≡ x ∷ drop (suc n) xs
drop-at [] n x at = absurd cc
drop-at {A} (y ∷ xs) zero x at = ap (λ (z : A). z ∷ xs) (some_is y x at)
drop-at (y ∷ xs) (suc n) x at = drop-at xs n x at

drop-next : {A : Type 0} (xs : List A) (n : ℕ) (x : A) → At xs n x → drop n xs ≡ x ∷ drop (n + 1) xs
drop-next xs n x at = (let e : suc n ≡ n + 1 = omega arith in drop-at xs n x at ∙ ap (λ (k : ℕ). x ∷ drop k xs) e)

drop-past : {A : Type 0} (xs : List A) (n : ℕ) → length xs ≤ n → drop n xs ≡ []
drop-past [] zero le = refl
drop-past [] (suc n) le = refl
drop-past (y ∷ xs) zero le = absurd (omega (arith, le))
drop-past (y ∷ xs) (suc n) le = drop-past xs n (omega (arith, le))

drop-more : {A : Type 0} (xs ys : List A) (n : ℕ) → n ≤ length xs → drop n (xs ++ ys) ≡ drop n xs ++ ys
drop-more xs ys zero le = refl
drop-more [] ys (suc n) le = absurd (omega (arith, le))
drop-more (x ∷ xs) ys (suc n) le = drop-more xs ys n (omega (arith, le))

pub spelled-more : (ms ns : List Fields) → spelled (ms ++ ns) ≡ spelled ms ++ spelled ns
spelled-more [] ns = refl
spelled-more (m ∷ ms) ns = ap (λ (b : List ℕ). spelling m ++ b) (spelled-more ms ns) ∙ sym (append_assoc (spelling m) (spelled ms) (spelled ns))

-- ---- the first message

-- the message that begins what came is the next that was sent
pub first-next : (a b : CircuitEnd) (m : Fields) (front rest : List ℕ) → AreMessages a.sent → Streams a b → Spells front m → b.came ≡ front ++ rest
    → At a.sent b.read m × Streams a (record b { came = rest; read = b.read + 1 })
first-next a b m front rest good s spells is =
    let tail : List ℕ = rest ++ (a.waiting ++ s.lost) in
    let all : front ++ tail ≡ spelled (drop b.read a.sent) = sym (append_assoc front rest (a.waiting ++ s.lost)) ∙ ap (λ (l : List ℕ). l ++ (a.waiting ++ s.lost)) (sym is) ∙ s.are in
    elim (At-or a.sent b.read) [
      | inl there ↦
          let n : Fields = there.0 in
          let next : front ++ tail ≡ spelling n ++ spelled (drop (b.read + 1) a.sent) = all ∙ ap (λ (ns : List Fields). spelled ns) (drop-next a.sent b.read n there.1) in
          let one = spells-front m n front (spelling n) tail (spelled (drop (b.read + 1) a.sent)) spells (spelling-spells n (good b.read n there.1)) next in
          let lt : b.read < length a.sent = At-within a.sent b.read n there.1 in
          (subst (λ (z : Fields). At a.sent b.read z) (sym one.0) there.1, record { within = omega (arith, lt); lost = s.lost; are = one.2; whole = s.whole })
      | inr past ↦
          let none : length (front ++ tail) ≡ 0 = ap (λ (l : List ℕ). length l) (all ∙ ap (λ (ns : List Fields). spelled ns) (drop-past a.sent b.read past)) in
          let long : 16 + length m.payload ≤ length front = spells-long m front spells in
          let sum : length (front ++ tail) ≡ length front + length tail = length-append front tail in
          absurd (omega (arith, none, long, sum))
    ]

-- ---- what an end does

-- it read nothing, or the first message of what came
abbrev pub Reads : (a b : CircuitEnd) → Type 0
Reads a b =
    ((b.came ≡ a.came) × (b.read ≡ a.read))
    ⊎ ((m : Fields) × (front : List ℕ) × Spells front m × (a.came ≡ front ++ b.came) × (b.read ≡ a.read + 1))

-- An end goes on as this: it sends these messages more, which wait after the others; or it ends,
-- and leaves a beginning of what waits then. One that has ended does nothing.
pub record Acts (a b : CircuitEnd) : Type 0 where
  pub more : List Fields
  pub sends : b.sent ≡ a.sent ++ more
  pub stays : b.is_open ≡ true → (a.is_open ≡ true) × (b.waiting ≡ a.waiting ++ spelled more) × Reads a b
  pub ends : b.is_open ≡ false → a.is_open ≡ true → (lost : List ℕ) × (a.waiting ++ spelled more ≡ b.waiting ++ lost)
  pub quiet : a.is_open ≡ false → (b.is_open ≡ false) × (b.waiting ≡ a.waiting) × (more ≡ [])

pub acts-itself : (a : CircuitEnd) → Acts a a
acts-itself a = record {
  more = [];
  sends = sym (append-nil a.sent);
  stays = λ o. (o, sym (append-nil a.waiting), inl (refl, refl));
  ends = λ f t. absurd (both_ways a.is_open f t);
  quiet = λ f. (f, refl, refl);
}

-- what the one end does, the messages that it sends still being those that come to the other
sends-on : (a b o : CircuitEnd) → Acts a b → Streams a o → Streams b o
sends-on a b o acts s = go a.is_open b.is_open refl refl
  where
    longer : o.read ≤ length b.sent
    longer =
        let e : length b.sent ≡ length a.sent + length acts.more = ap (λ (l : List Fields). length l) acts.sends ∙ length-append a.sent acts.more in
        let le : o.read ≤ length a.sent = s.within in
        omega (arith, le, e)

    grown : spelled (drop o.read a.sent) ++ spelled acts.more ≡ spelled (drop o.read b.sent)
    grown =
        sym (ap (λ (ns : List Fields). spelled (drop o.read ns)) acts.sends
        ∙ ap (λ (ns : List Fields). spelled ns) (drop-more a.sent acts.more o.read s.within)
        ∙ spelled-more (drop o.read a.sent) acts.more)

    -- while it was open nothing was lost
    whole : a.is_open ≡ true → o.came ++ (a.waiting ++ spelled acts.more) ≡ spelled (drop o.read b.sent)
    whole t =
        let was : o.came ++ a.waiting ≡ spelled (drop o.read a.sent) =
        ap (λ (l : List ℕ). o.came ++ l) (sym (append-nil a.waiting) ∙ ap (λ (l : List ℕ). a.waiting ++ l) (sym (s.whole t))) ∙ s.are in
        sym (append_assoc o.came a.waiting (spelled acts.more)) ∙ ap (λ (l : List ℕ). l ++ spelled acts.more) was ∙ grown

    go : (p q : Bool) → a.is_open ≡ p → b.is_open ≡ q → Streams b o
    go true true t u = record {
      within = longer;
      lost = [];
      are = ap (λ (l : List ℕ). o.came ++ l) (append-nil b.waiting ∙ (acts.stays u).1) ∙ whole t;
      whole = λ e. refl;
    }
    go true false t u =
        let left = acts.ends u t in
        record {
          within = longer;
          lost = left.0;
          are = ap (λ (l : List ℕ). o.came ++ l) (sym left.1) ∙ whole t;
          whole = λ e. absurd (both_ways b.is_open u e);
        }
    go false q t u =
        let none = acts.quiet t in
        let same : b.sent ≡ a.sent = acts.sends ∙ ap (λ (l : List Fields). a.sent ++ l) none.2 ∙ append-nil a.sent in
        record {
          within = longer;
          lost = s.lost;
          are = ap (λ (l : List ℕ). o.came ++ (l ++ s.lost)) none.1 ∙ s.are ∙ ap (λ (l : List Fields). spelled (drop o.read l)) (sym same);
          whole = λ e. absurd (both_ways b.is_open none.0 e);
        }

-- and what it reads
reads-on : (a b o : CircuitEnd) → Acts a b → AreMessages o.sent → b.is_open ≡ true → Streams o a → Streams o b
reads-on a b o acts good opened s = elim (acts.stays opened).2 [
  | inl same ↦
      record {
        within = subst (λ (n : ℕ). n ≤ length o.sent) (sym same.1) s.within;
        lost = s.lost;
        are = ap (λ (l : List ℕ). l ++ (o.waiting ++ s.lost)) same.0 ∙ s.are ∙ ap (λ (n : ℕ). spelled (drop n o.sent)) (sym same.1);
        whole = s.whole;
      }
  | inr took ↦
      let r = (first-next o a took.0 took.1 b.came good s took.2 took.3).1 in
      record {
        within = subst (λ (n : ℕ). n ≤ length o.sent) (sym took.4) r.within;
        lost = r.lost;
        are = r.are ∙ ap (λ (n : ℕ). spelled (drop n o.sent)) (sym took.4);
        whole = r.whole;
      }
]

-- what was sent before are messages too
good-before : (a b : CircuitEnd) → Acts a b → AreMessages b.sent → AreMessages a.sent
good-before a b acts good i m at = good i m (subst (λ (l : List Fields). At l i m) (sym acts.sends) (At-append a.sent acts.more i m at))

pub meets-on : (a b o : CircuitEnd) → Acts a b → Meets a o → Meets b o
meets-on a b o acts m = record {
  there = λ e good. sends-on a b o acts (m.there e (good-before a b acts good));
  back = λ e good. reads-on a b o acts good e (m.back (acts.stays e).0 good);
}

pub meets-turned : (a b : CircuitEnd) → Meets a b → Meets b a
meets-turned a b m = record { there = m.back; back = m.there }

pub meets-on-back : (a b o : CircuitEnd) → Acts a b → Meets o a → Meets o b
meets-on-back a b o acts m = meets-turned b o (meets-on a b o acts (meets-turned o a m))

-- ---- bytes move

-- the first n bytes that wait at the one end come to the other
pub meets-moved : (a o : CircuitEnd) (n : ℕ) → Meets a o → Meets (record a { waiting = drop n a.waiting }) (record o { came = o.came ++ take n a.waiting })
meets-moved a o n m = record {
  there = λ e good.
      let s = m.there e good in
      record {
        within = s.within;
        lost = s.lost;
        are =
            append_assoc o.came (take n a.waiting) (drop n a.waiting ++ s.lost)
            ∙ ap (λ (l : List ℕ). o.came ++ l) (sym (append_assoc (take n a.waiting) (drop n a.waiting) s.lost) ∙ ap (λ (l : List ℕ). l ++ s.lost) (take-append-drop n a.waiting))
            ∙ s.are;
        whole = s.whole;
      };
  back = λ e good. (let s = m.back e good in record { within = s.within; lost = s.lost; are = s.are; whole = s.whole });
}

-- ---- a new circuit

-- two ends of which none did anything
pub streams-new : (p q : CircuitEnd) → q.came ≡ [] → p.waiting ≡ [] → p.sent ≡ [] → q.read ≡ 0 → Streams p q
streams-new p q came waiting sent read = record {
  within = omega (arith, read);
  lost = [];
  are =
      ap (λ (l : List ℕ). l ++ (p.waiting ++ [])) came ∙ ap (λ (l : List ℕ). l ++ []) waiting
      ∙ sym (ap (λ (l : List Fields). spelled (drop q.read l)) sent ∙ ap (λ (n : ℕ). spelled (drop n [])) read);
  whole = λ e. refl;
}

pub meets-new : (a b : CircuitEnd) → a.came ≡ [] → b.came ≡ [] → a.waiting ≡ [] → b.waiting ≡ [] → a.sent ≡ [] → b.sent ≡ [] → a.read ≡ 0 → b.read ≡ 0 → Meets a b
meets-new a b ca cb wa wb sa sb ra rb = record { there = λ e good. streams-new a b cb wa sa rb; back = λ e good. streams-new b a ca wb sb ra }

-- ---- each way to go on

pub open-acts : (a b : CircuitEnd) (more : List Fields) → a.is_open ≡ true → b.is_open ≡ true → b.sent ≡ a.sent ++ more → b.waiting ≡ a.waiting ++ spelled more → Reads a b → Acts a b
open-acts a b more t u sent waiting reads = record {
  more = more;
  sends = sent;
  stays = λ o. (t, waiting, reads);
  ends = λ f o. absurd (both_ways b.is_open f u);
  quiet = λ f. absurd (both_ways a.is_open f t);
}

pub close-acts : (a b : CircuitEnd) (more : List Fields) (lost : List ℕ) → a.is_open ≡ true → b.is_open ≡ false → b.sent ≡ a.sent ++ more → a.waiting ++ spelled more ≡ b.waiting ++ lost → Acts a b
close-acts a b more lost t f sent waiting = record {
  more = more;
  sends = sent;
  stays = λ o. absurd (both_ways b.is_open f o);
  ends = λ g o. (lost, waiting);
  quiet = λ g. absurd (both_ways a.is_open g t);
}

pub shut-acts : (a b : CircuitEnd) → a.is_open ≡ false → b.is_open ≡ false → b.sent ≡ a.sent → b.waiting ≡ a.waiting → Acts a b
shut-acts a b f g sent waiting = record {
  more = [];
  sends = sent ∙ sym (append-nil a.sent);
  stays = λ o. absurd (both_ways b.is_open g o);
  ends = λ h t. absurd (both_ways a.is_open f t);
  quiet = λ h. (g, waiting, refl);
}
