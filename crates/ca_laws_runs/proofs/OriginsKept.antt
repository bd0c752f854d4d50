-- Logs of servers come from events: what an event may add to them.
use Rattle.std.proofs.Common.{◌≡◌, ℕ, zero, suc, ◌+◌, ◌<◌, ◌≤◌, ◌⊎◌, inl, inr, Bool, true, false, cond, eqb, eq-eqb, eqb-true, ltb, List, [], ◌∷◌, ◌++◌, length, length-append, Option, Some, None, refl, sym, ap, subst, ◌∙◌, append_assoc, arith}
use Rattle.std.specs.Prelude.{map, slice_get, take, unwrap_or}
use Rattle.std.specs.List.{filter_map, range_with_len}
use Rattle.std.proofs.lemmas.Bool.{eqb-false, le-ltb, lt-ltb, ltb-true}
use Rattle.std.proofs.lemmas.List.{length-map}
use Rattle.std.proofs.lemmas.List.Elements.{filter_map-append}
use Rattle.std.proofs.lemmas.List.FromFn.{get_or-range_with_len, length-range_with_len}
use Rattle.std.proofs.lemmas.Option.{slice_get-get_or}
use Rattle.ca_text.specs.Place.{At}
use Rattle.ca_text.proofs.Places.{At-append, At-last, At-mapped, At-parts, At-set, At-snoc, At-within}
use Rattle.ca_model.specs.Events.{Event}
use Rattle.ca_model.specs.Events as event
use Rattle.ca_model.specs.History.{Entry}
use Rattle.ca_model.specs.Origins.{ComeFromEvents, IsFrom, IsUnasked, MakesEntry, restarted, servers_of}
use Rattle.ca_model.specs.World.{ServerSetting, Setting, grown, log_begun}
use Rattle.ca_laws_parts.proofs.WritesLists.{take-front, take-whole}
use Rattle.ca_laws_runs.proofs.ServersStay.{set-count}

-- ---- origins of one log more

-- as before, but for this life from its entry n on: that comes from o, and those after it from none
abbrev pub over : (life n : ℕ) → Option ℕ → (ℕ → ℕ → Option ℕ) → ℕ → ℕ → Option ℕ
over life n o f l k = cond (eqb l life) (cond (ltb k n) (f l k) (cond (eqb k n) o None)) (f l k)

module _ (life n : ℕ) (o : Option ℕ) (f : ℕ → ℕ → Option ℕ) where
  over-some : (l k p : ℕ) → over life n o f l k ≡ Some p → ((f l k ≡ Some p) × (l ≡ life → k < n)) ⊎ ((l ≡ life) × (k ≡ n) × (o ≡ Some p))
  over-some l k p is = go (eqb l life) (ltb k n) (eqb k n) refl refl refl is
    where
      go : (a b c : Bool) → eqb l life ≡ a → ltb k n ≡ b → eqb k n ≡ c → cond a (cond b (f l k) (cond c o None)) (f l k) ≡ Some p → ((f l k ≡ Some p) × (l ≡ life → k < n)) ⊎ ((l ≡ life) × (k ≡ n) × (o ≡ Some p))
      go true true c of_it early last is = inl (is, λ same. ltb-true k n early)
      go true false true of_it early last is = inr (eqb-true l life of_it, eqb-true k n last, is)
      go true false false of_it early last is = absurd cc
      go false b c of_it early last is = inl (is, λ same. absurd (eqb-false l life of_it same))

  over-early : (l k : ℕ) → (l ≡ life → k < n) → over life n o f l k ≡ f l k
  over-early l k early = go (eqb l life) refl
    where
      go : (a : Bool) → eqb l life ≡ a → cond a (cond (ltb k n) (f l k) (cond (eqb k n) o None)) (f l k) ≡ f l k
      go true is = ap (λ (b : Bool). cond b (f l k) (cond (eqb k n) o None)) (lt-ltb k n (early (eqb-true l life is)))
      go false is = refl

  over-here : over life n o f life n ≡ o
  over-here =
      let none : ltb n n ≡ false = le-ltb n n (omega arith) in
      λ i. cond (eq-eqb life life refl i) (cond (none i) (f life n) (cond (eq-eqb n n refl i) o None)) (f life n)

  over-late : (k : ℕ) → n ≤ k → o ≡ None → over life n o f life k ≡ None
  over-late k late none = ap (λ (a : Bool). cond a (cond (ltb k n) (f life k) (cond (eqb k n) o None)) (f life k)) (eq-eqb life life refl) ∙ ap (λ (b : Bool). cond b (f life k) (cond (eqb k n) o None)) (le-ltb k n late) ∙ go (eqb k n)
    where
      go : (c : Bool) → cond c o None ≡ None
      go true = none
      go false = refl

-- ---- events, and the servers of lives

servers-snoc : (s : Setting) (es : List Event) (e : Event) → servers_of s (es ++ e ∷ []) ≡ servers_of s es ++ filter_map restarted (e ∷ [])
servers-snoc s es e =
    ap (λ (l : List ℕ). range_with_len 0 (length s.servers) ++ l) (filter_map-append restarted es (e ∷ []))
    ∙ sym (append_assoc (range_with_len 0 (length s.servers)) (filter_map restarted es) (filter_map restarted (e ∷ [])))

pub servers-more : (s : Setting) (es : List Event) (e : Event) (l i : ℕ) → At (servers_of s es) l i → At (servers_of s (es ++ e ∷ [])) l i
servers-more s es e l i at = subst (λ (xs : List ℕ). At xs l i) (sym (servers-snoc s es e)) (At-append (servers_of s es) (filter_map restarted (e ∷ [])) l i at)

-- the life that a restart begins
pub server-begun : (s : Setting) (es : List Event) (i : ℕ) → At (servers_of s (es ++ event.ServerRestart i ∷ [])) (length (servers_of s es)) i
server-begun s es i = subst (λ (xs : List ℕ). At xs (length (servers_of s es)) i) (sym (servers-snoc s es (event.ServerRestart i))) (At-last (servers_of s es) i)

pub server-first : (s : Setting) (i : ℕ) → i < length s.servers → At (servers_of s []) i i
server-first s i lt =
    let first : At (range_with_len 0 (length s.servers)) i i =
    slice_get-get_or (range_with_len 0 (length s.servers)) i 0 (let len : length (range_with_len 0 (length s.servers)) ≡ length s.servers = length-range_with_len 0 (length s.servers) in omega (arith, len, lt))
    ∙ ap (λ (n : ℕ). Some n) (get_or-range_with_len 0 (length s.servers) i 0 lt ∙ (let z : 0 + i ≡ i = omega arith in z)) in
    At-append (range_with_len 0 (length s.servers)) [] i i first

is-from-more : (s : Setting) (es : List Event) (e : Event) (i k : ℕ) (y : List Entry) (x : Entry) (o : Option ℕ) → IsFrom s es i k y x o → IsFrom s (es ++ e ∷ []) i k y x o
is-from-more s es e i k y x (Some place) is = (is.0, At-append es (e ∷ []) place is.0 is.1, is.2)
is-from-more s es e i k y x None is = is

-- ---- logs that come from events

pub record Traced (s : Setting) (es : List Event) (logs : List (List Entry)) : Type 0 where
  pub comes : ComeFromEvents s es logs
  pub below : (life k place : ℕ) → comes.origin life k ≡ Some place → place < length es
  pub lives : length (servers_of s es) ≡ length logs

-- one event more, which begins no life
pub traced-on : (s : Setting) (es : List Event) (e : Event) (logs : List (List Entry)) → filter_map restarted (e ∷ []) ≡ [] → Traced s es logs → Traced s (es ++ e ∷ []) logs
traced-on s es e logs none t = record {
  comes = record {
    origin = t.comes.origin;
    each = λ life k y entry at there un. (let b = t.comes.each life k y entry at there un in (b.0, servers-more s es e life b.0 b.1, is-from-more s es e b.0 k (take k y) entry (t.comes.origin life k) b.2));
    own = t.comes.own;
    in_order = t.comes.in_order;
  };
  below = λ life k place is. (let lt = t.below life k place is in let more : length (es ++ e ∷ []) ≡ length es + 1 = length-append es (e ∷ []) in omega (arith, lt, more));
  lives = same-count s es e none ∙ t.lives;
}
  where
    same-count : (s : Setting) (es : List Event) (e : Event) → filter_map restarted (e ∷ []) ≡ [] → length (servers_of s (es ++ e ∷ [])) ≡ length (servers_of s es)
    same-count s es e none =
        let a : length (servers_of s (es ++ e ∷ [])) ≡ length (servers_of s es) + length (filter_map restarted (e ∷ [])) = ap (λ (xs : List ℕ). length xs) (servers-snoc s es e) ∙ length-append (servers_of s es) (filter_map restarted (e ∷ [])) in
        let b : length (filter_map restarted (e ∷ [])) ≡ 0 = ap (λ (xs : List ℕ). length xs) none in
        omega (arith, a, b)

-- a log of a life that grew, or another
grown-at : (logs : List (List Entry)) (life : ℕ) (more log : List Entry) → At logs life log → (l : ℕ) (y : List Entry) → At (grown life more logs) l y → (At logs l y × (l ≡ life → ⊥)) ⊎ ((l ≡ life) × (y ≡ log ++ more))
grown-at logs life more log here l y at = elim (At-set logs life (unwrap_or (slice_get logs life) [] ++ more) l y at) [
  | inl own ↦ inr (own.0, own.1 ∙ ap (λ (o : Option (List Entry)). unwrap_or o [] ++ more) here)
  | inr old ↦ inl old
]

-- What is added to the log of a life: at most its first entry is unasked, and that comes from o.
module _ (s : Setting) (es : List Event) (logs : List (List Entry)) (life : ℕ) (more log : List Entry) (here : At logs life log) (o : Option ℕ) (after : ℕ) (fresh : (p : ℕ) → o ≡ Some p → (after ≤ p) × (p < length es))
    (comes : (k : ℕ) (x : Entry) → At more k x → IsUnasked x → (k ≡ 0) × ((i : ℕ) × At (servers_of s es) life i × IsFrom s es i (length log) log x o))
    (t : Traced s es logs) (early : (l k p : ℕ) → t.comes.origin l k ≡ Some p → p < after) where
  abbrev f : ℕ → ℕ → Option ℕ
  f = over life (length log) o t.comes.origin

  grown-each : (l k : ℕ) (y : List Entry) (x : Entry) → At (grown life more logs) l y → At y k x → IsUnasked x → (i : ℕ) × At (servers_of s es) l i × IsFrom s es i k (take k y) x (f l k)
  grown-each l k y x at there un = elim (grown-at logs life more log here l y at) [
    | inl old ↦
        let b = t.comes.each l k y x old.0 there un in
        (b.0, b.1, subst (λ (p : Option ℕ). IsFrom s es b.0 k (take k y) x p) (sym (over-early life (length log) o t.comes.origin l k (λ same. absurd (old.1 same)))) b.2)
    | inr own ↦ within own.0 own.1 (At-parts log more k x (subst (λ (z : List Entry). At z k x) own.1 there))
  ]
    where
      within : l ≡ life → y ≡ log ++ more → At log k x ⊎ ((j : ℕ) × (k ≡ length log + j) × At more j x) → (i : ℕ) × At (servers_of s es) l i × IsFrom s es i k (take k y) x (f l k)
      within same is (inl old) =
          let lt : k < length log = At-within log k x old in
          let b = t.comes.each l k log x (subst (λ (n : ℕ). At logs n log) (sym same) here) old un in
          let front : take k y ≡ take k log = ap (λ (z : List Entry). take k z) is ∙ take-front k log more (omega (arith, lt)) in
          (b.0, b.1, subst (λ (p : List Entry × Option ℕ). IsFrom s es b.0 k p.0 x p.1) (λ i. (sym front i, sym (over-early life (length log) o t.comes.origin l k (λ e. lt)) i)) b.2)
      within same is (inr (j, k_is, new)) =
          let b = comes j x new un in
          let first : j ≡ 0 = b.0 in
          let last : k ≡ length log = omega (arith, k_is, first) in
          let front : take (length log) y ≡ log = ap (λ (z : List Entry). take (length log) z) is ∙ take-front (length log) log more (omega arith) ∙ take-whole log in
          let by : IsFrom s es b.1.0 (length log) (take (length log) y) x (over life (length log) o t.comes.origin life (length log)) =
          subst (λ (p : List Entry × Option ℕ). IsFrom s es b.1.0 (length log) p.0 x p.1) (λ i. (sym front i, sym (over-here life (length log) o t.comes.origin) i)) b.1.2 in (
            b.1.0,
            subst (λ (n : ℕ). At (servers_of s es) n b.1.0) (sym same) b.1.1,
            subst (λ (p : ℕ × ℕ). IsFrom s es b.1.0 p.1 (take p.1 y) x (over life (length log) o t.comes.origin p.0 p.1)) (λ i. (sym same i, sym last i)) by,
          )

  grown-own : (l m k j p : ℕ) → f l k ≡ Some p → f m j ≡ Some p → (l ≡ m) × (k ≡ j)
  grown-own l m k j p a b = elim (over-some life (length log) o t.comes.origin l k p a) [
    | inl old ↦ elim (over-some life (length log) o t.comes.origin m j p b) [
      | inl too ↦ t.comes.own l m k j p old.0 too.0
      | inr new ↦ absurd (let lt = early l k p old.0 in let le = (fresh p new.2).0 in omega (arith, lt, le))
    ]
    | inr new ↦ elim (over-some life (length log) o t.comes.origin m j p b) [
      | inl old ↦ absurd (let lt = early m j p old.0 in let le = (fresh p new.2).0 in omega (arith, lt, le))
      | inr too ↦ (new.0 ∙ sym too.0, new.1 ∙ sym too.1)
    ]
  ]

  grown-order : (l k j a b : ℕ) (y : List Entry) → At (grown life more logs) l y → k < j → j < length y → f l k ≡ Some a → f l j ≡ Some b → a < b
  grown-order l k j a b y at lt within of_k of_j = elim (over-some life (length log) o t.comes.origin l k a of_k) [
    | inl first ↦ elim (over-some life (length log) o t.comes.origin l j b of_j) [
      | inl second ↦ elim (grown-at logs life more log here l y at) [
        | inl old ↦ t.comes.in_order l k j a b y old.0 lt within first.0 second.0
        | inr own ↦ t.comes.in_order l k j a b log (subst (λ (n : ℕ). At logs n log) (sym own.0) here) lt (second.1 own.0) first.0 second.0
      ]
      | inr new ↦ (let below = early l k a first.0 in let le = (fresh b new.2).0 in omega (arith, below, le))
    ]
    | inr first ↦ elim (over-some life (length log) o t.comes.origin l j b of_j) [
      | inl second ↦ absurd (let past = second.1 first.0 in let e : k ≡ length log = first.1 in omega (arith, lt, past, e))
      | inr second ↦ absurd (let e : k ≡ length log = first.1 in let g : j ≡ length log = second.1 in omega (arith, lt, e, g))
    ]
  ]

  grown-below : (l k p : ℕ) → f l k ≡ Some p → p < length es
  grown-below l k p is = elim (over-some life (length log) o t.comes.origin l k p is) [
    | inl old ↦ t.below l k p old.0
    | inr new ↦ (fresh p new.2).1
  ]

  pub traced-grown : Traced s es (grown life more logs)
  traced-grown = record {
    comes = record { origin = f; each = grown-each; own = grown-own; in_order = grown-order };
    below = grown-below;
    lives = t.lives ∙ sym (set-count logs life (unwrap_or (slice_get logs life) [] ++ more));
  }

-- entries that messages make, or that withdraw puts
abbrev pub AreAsked : List Entry → Type 0
AreAsked es = (k : ℕ) (x : Entry) → At es k x → IsUnasked x → ⊥

pub traced-asked : (s : Setting) (es : List Event) (logs : List (List Entry)) (life : ℕ) (more log : List Entry) → At logs life log → AreAsked more → Traced s es logs → Traced s es (grown life more logs)
traced-asked s es logs life more log here asked t =
    traced-grown s es logs life more log here None (length es) (λ p is. absurd (let e : None ≡ Some p = is in cc)) (λ k x at un. absurd (asked k x at un)) t t.below

-- the entry that this event makes, and others
pub traced-made : (s : Setting) (es : List Event) (e : Event) (logs : List (List Entry)) (life i : ℕ) (x : Entry) (rest log : List Entry) → filter_map restarted (e ∷ []) ≡ [] → At logs life log → At (servers_of s es) life i → MakesEntry i log e x → AreAsked rest → Traced s es logs
    → Traced s (es ++ e ∷ []) (grown life (x ∷ rest) logs)
unfolding traced-on
traced-made s es e logs life i x rest log none here server makes asked t =
    let on : Traced s (es ++ e ∷ []) logs = traced-on s es e logs none t in
    let more : length (es ++ e ∷ []) ≡ length es + 1 = length-append es (e ∷ []) in
    traced-grown s (es ++ e ∷ []) logs life (x ∷ rest) log here (Some (length es)) (length es)
    (λ p is. (let same : length es ≡ p = one-place (length es) p is in (omega (arith, same), omega (arith, same, more)))) comes on t.below
  where
    one-place : (a b : ℕ) → Some a ≡ Some b → a ≡ b
    one-place a b is = cc

    comes : (k : ℕ) (z : Entry) → At (x ∷ rest) k z → IsUnasked z → (k ≡ 0) × ((n : ℕ) × At (servers_of s (es ++ e ∷ [])) life n × IsFrom s (es ++ e ∷ []) n (length log) log z (Some (length es)))
    comes zero z at un = (refl, (i, servers-more s es e life i server, (e, At-last es e, subst (λ (v : Entry). MakesEntry i log e v) (one-entry x z at) makes)))
      where
        one-entry : (a b : Entry) → Some a ≡ Some b → a ≡ b
        one-entry a b is = cc
    comes (suc k) z at un = absurd (asked k z at un)

-- a life begins
pub traced-begun : (s : Setting) (es : List Event) (i : ℕ) (given : ServerSetting) (logs : List (List Entry)) → At s.servers i given → Traced s es logs → Traced s (es ++ event.ServerRestart i ∷ []) (logs ++ log_begun given ∷ [])
traced-begun s es i given logs at_i t = record {
  comes = record {
    origin = f;
    each = each;
    own = λ l m k j p a b. t.comes.own l m k j p (was l k p a).0 (was m j p b).0;
    in_order = λ l k j a b y at lt within of_k of_j. elim (At-snoc logs (log_begun given) l y at) [
      | inl old ↦ t.comes.in_order l k j a b y old lt within (was l k a of_k).0 (was l j b of_j).0
      | inr new ↦ absurd (let none = (was l j b of_j).1 new.0 in omega (arith, none))
    ];
  };
  below = λ l k p is. (let lt = t.below l k p (was l k p is).0 in omega (arith, lt, more));
  lives =
      let a : length (servers_of s (es ++ event.ServerRestart i ∷ [])) ≡ length (servers_of s es) + 1 = ap (λ (xs : List ℕ). length xs) (servers-snoc s es (event.ServerRestart i)) ∙ length-append (servers_of s es) (i ∷ []) in
      let b : length (logs ++ log_begun given ∷ []) ≡ length logs + 1 = length-append logs (log_begun given ∷ []) in
      let c : length (servers_of s es) ≡ length logs = t.lives in
      omega (arith, a, b, c);
}
  where
    more : length (es ++ event.ServerRestart i ∷ []) ≡ length es + 1
    more = length-append es (event.ServerRestart i ∷ [])

    f : ℕ → ℕ → Option ℕ
    f = over (length logs) 0 None t.comes.origin

    was : (l k p : ℕ) → f l k ≡ Some p → (t.comes.origin l k ≡ Some p) × (l ≡ length logs → k < 0)
    was l k p is = elim (over-some (length logs) 0 None t.comes.origin l k p is) [
      | inl old ↦ old
      | inr new ↦ absurd (let e : None ≡ Some p = new.2 in cc)
    ]

    each : (l k : ℕ) (y : List Entry) (x : Entry) → At (logs ++ log_begun given ∷ []) l y → At y k x → IsUnasked x → (n : ℕ) × At (servers_of s (es ++ event.ServerRestart i ∷ [])) l n × IsFrom s (es ++ event.ServerRestart i ∷ []) n k (take k y) x (f l k)
    each l k y x at there un = elim (At-snoc logs (log_begun given) l y at) [
      | inl old ↦
          let lt : l < length logs = At-within logs l y old in
          let b = t.comes.each l k y x old there un in (
            b.0,
            servers-more s es (event.ServerRestart i) l b.0 b.1,
            subst (λ (o : Option ℕ). IsFrom s (es ++ event.ServerRestart i ∷ []) b.0 k (take k y) x o) (sym (over-early (length logs) 0 None t.comes.origin l k (λ same. absurd (omega (arith, lt, same)))))
                (is-from-more s es (event.ServerRestart i) b.0 k (take k y) x (t.comes.origin l k) b.2),
          )
      | inr new ↦ (
        i,
        subst (λ (n : ℕ). At (servers_of s (es ++ event.ServerRestart i ∷ [])) n i) (t.lives ∙ sym new.0) (server-begun s es i),
        subst (λ (o : Option ℕ). IsFrom s (es ++ event.ServerRestart i ∷ []) i k (take k y) x o)
            (sym (over-late (length logs) 0 None t.comes.origin k (omega arith) refl) ∙ ap (λ (n : ℕ). over (length logs) 0 None t.comes.origin n k) (sym new.0))
            (given, at_i, subst (λ (z : List Entry). At z k x) new.1 there),
      )
    ]

-- before any event
pub traced-opening : (s : Setting) → Traced s [] (map log_begun s.servers)
traced-opening s = record {
  comes = record {
    origin = λ life k. None;
    each = λ life k y x at there un. (let g = At-mapped log_begun s.servers life y at in (life, server-first s life (At-within s.servers life g.0 g.1), (g.0, g.1, subst (λ (z : List Entry). At z k x) g.2 there)));
    own = λ l m k j p a b. absurd (let e : None ≡ Some p = a in cc);
    in_order = λ l k j a b y at lt within of_k of_j. absurd (let e : None ≡ Some a = of_k in cc);
  };
  below = λ life k p is. absurd (let e : None ≡ Some p = is in cc);
  lives =
      let a : length (servers_of s []) ≡ length (range_with_len 0 (length s.servers)) + 0 = length-append (range_with_len 0 (length s.servers)) [] in
      let b : length (range_with_len 0 (length s.servers)) ≡ length s.servers = length-range_with_len 0 (length s.servers) in
      let c : length (map log_begun s.servers) ≡ length s.servers = length-map s.servers log_begun in
      omega (arith, a, b, c);
}
