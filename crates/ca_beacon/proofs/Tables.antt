-- A table's entries as its map.
use Rattle.std.proofs.Common.{◌≡◌, ℕ, ◌+◌, ◌-◌, ◌<◌, ◌≤◌, ◌⊎◌, Bool, true, false, cond, ◌||◌, nat_lt, List, [], ◌∷◌, length, Option, None, Some, is_some, Result, Ok, Err, inl, inr, refl, sym, ap, ◌∙◌, subst, arith}
use Rattle.std.specs.Result.{IsErrAnd}
use Rattle.std.specs.declared.cmp.Ordering.{Ordering}
use Rattle.std.specs.declared.cmp.Ordering.TheVariants.{Equal, Greater, Less}
use Rattle.std.specs.Ordering.{nat_cmp, eq_by_cmp, is_eq}
use Rattle.std.specs.Cmp.{nat_cmp_total, eq_by_cmp_equiv}
use Rattle.std.specs.Map.{lookup}
use Rattle.std.specs.BTreeMap.{is_at}
use Rattle.std.specs.FinMap as map
use Rattle.std.specs.FinMap.{find, get-from_entries, get-insert, get-remove, get_tied, len-insert, len-empty, len-remove, same_map, nat_cmp-IsAntisymmetric}
use Rattle.std.proofs.lemmas.Bool.{lt-ltb, le-ltb}
use Rattle.ca_text.specs.declared.refusal.Refusal.{Refusal}
use Rattle.ca_text.specs.declared.refusal.Refusal.TheVariants.{OutOfMemory}
use Rattle.ca_text.specs.Limits.{beacon_servers}
use Rattle.ca_beacon.specs.Table.{Hears, IsTable, Servers, noted, restored}

-- the number that is at a server
abbrev pub last_in : List (ℕ × ℕ) → ℕ → Option ℕ
last_in es q = lookup (is_at (nat_cmp q)) es

abbrev pub mapped : List (ℕ × ℕ) → Servers
mapped es = map.from_entries es

find-lookup : (q : ℕ) (es : List (ℕ × ℕ)) → find nat_cmp q es ≡ last_in es q
find-lookup q [] = refl
find-lookup q (e ∷ es) = ap (λ (o : Option ℕ). cond (eq_by_cmp nat_cmp q e.0) (Some e.1) o) (find-lookup q es)

pub get-mapped : (es : List (ℕ × ℕ)) (q : ℕ) → map.get (mapped es) q ≡ last_in es q
get-mapped es q = get-from_entries nat_cmp_total es q ∙ find-lookup q es

abbrev pub Puts : List (ℕ × ℕ) → ℕ → ℕ → List (ℕ × ℕ) → Type 0
Puts es k v ns = (q : ℕ) → last_in ns q ≡ cond (is_at (nat_cmp k) q) (Some v) (last_in es q)

pub mapped-insert : (es ns : List (ℕ × ℕ)) (k v : ℕ) → Puts es k v ns → mapped ns ≡ map.insert (mapped es) k v
mapped-insert es ns k v puts =
    same_map nat_cmp_total nat_cmp-IsAntisymmetric (mapped ns) (map.insert (mapped es) k v) (λ q. get-mapped ns q ∙ puts q ∙ ap (λ (b : Bool). cond b (Some v) (last_in es q)) ((eq_by_cmp_equiv nat_cmp_total).symm k q) ∙ sym (get-insert nat_cmp_total (mapped es) k v q ∙ ap (λ (o : Option ℕ). cond (eq_by_cmp nat_cmp q k) (Some v) o) (get-mapped es q)))

pub empty-table : (es : List (ℕ × ℕ)) → es ≡ [] → IsTable es
empty-table es e = rw e (record { once = len-empty nat_cmp ℕ; within = omega arith })

more : (b : Bool) (n : ℕ) → cond b n (n + 1) ≡ n + cond b 0 1
more true n = omega arith
more false n = omega arith

pub length-put : (es ns : List (ℕ × ℕ)) (k v : ℕ) → IsTable es → Puts es k v ns → length ns ≡ length es + cond (is_some (last_in es k)) 0 1 → map.len (mapped ns) ≡ length ns
length-put es ns k v table puts longer =
    ap (λ (m : Servers). map.len m) (mapped-insert es ns k v puts) ∙ len-insert nat_cmp_total (mapped es) k v ∙ ap (λ (o : Option ℕ). cond (is_some o) (map.len (mapped es)) (map.len (mapped es) + 1)) (get-mapped es k)
    ∙ more (is_some (last_in es k)) (map.len (mapped es)) ∙ ap (λ (n : ℕ). n + cond (is_some (last_in es k)) 0 1) table.once ∙ sym longer

-- there is room: the server is known, or fewer than the limit are
pub record HasRoom (es : List (ℕ × ℕ)) (k : ℕ) : Type 0 where
  pub room : (is_some (last_in es k) ≡ true) ⊎ (length es < beacon_servers)

within-room : (o : Option ℕ) (n m : ℕ) → n ≤ beacon_servers → (is_some o ≡ true) ⊎ (n < beacon_servers) → m ≡ n + cond (is_some o) 0 1 → m ≤ beacon_servers
within-room None n m within room longer = elim room [ inl e ↦ absurd (cc) | inr l ↦ omega arith ]
within-room (Some x) n m within room longer = omega arith

pub put-table : (es ns : List (ℕ × ℕ)) (k v : ℕ) → IsTable es → HasRoom es k → Puts es k v ns → length ns ≡ length es + cond (is_some (last_in es k)) 0 1 → IsTable ns
put-table es ns k v table room puts longer =
    record { once = length-put es ns k v table puts longer; within = within-room (last_in es k) (length es) (length ns) table.within room.room longer }

kept-room : (o : Option ℕ) (n : ℕ) (a b : Servers) → (is_some o ≡ true) ⊎ (n < beacon_servers) → cond (is_some o || nat_lt n beacon_servers) a b ≡ a
kept-room (Some x) n a b room = refl
kept-room None n a b room = elim room [ inl e ↦ absurd (cc) | inr l ↦ ap (λ (t : Bool). cond t a b) (lt-ltb n beacon_servers l) ]

noted-at : (es : List (ℕ × ℕ)) (k v : ℕ) → IsTable es → noted (mapped es) k v ≡ cond (is_some (last_in es k) || nat_lt (length es) beacon_servers) (map.insert (mapped es) k v) (mapped es)
noted-at es k v table =
    ap (λ (o : Option ℕ). cond (is_some o || nat_lt (map.len (mapped es)) beacon_servers) (map.insert (mapped es) k v) (mapped es)) (get-mapped es k)
    ∙ ap (λ (n : ℕ). cond (is_some (last_in es k) || nat_lt n beacon_servers) (map.insert (mapped es) k v) (mapped es)) table.once

-- the server is kept
pub put-noted : (es ns : List (ℕ × ℕ)) (old : Servers) (k v : ℕ) → mapped es ≡ old → IsTable es → HasRoom es k → Puts es k v ns → mapped ns ≡ noted old k v
put-noted es ns old k v view table room puts =
    subst (λ (m : Servers). mapped ns ≡ noted m k v) view (mapped-insert es ns k v puts ∙ sym (noted-at es k v table ∙ kept-room (last_in es k) (length es) _ _ room.room))

-- it is not, since the table is full
pub full-noted : (es : List (ℕ × ℕ)) (old : Servers) (k v : ℕ) → mapped es ≡ old → IsTable es → last_in es k ≡ None → beacon_servers ≤ length es → old ≡ noted old k v
full-noted es old k v view table none full =
    subst (λ (m : Servers). m ≡ noted m k v) view (sym (noted-at es k v table ∙ ap (λ (o : Option ℕ). cond (is_some o || nat_lt (length es) beacon_servers) (map.insert (mapped es) k v) (mapped es)) none ∙ ap (λ (t : Bool). cond t (map.insert (mapped es) k v) (mapped es)) (le-ltb (length es) beacon_servers full)))

pub get-held : (es : List (ℕ × ℕ)) (old : Servers) (k : ℕ) → mapped es ≡ old → map.get old k ≡ last_in es k
get-held es old k view = ap (λ (m : Servers). map.get m k) (sym view) ∙ get-mapped es k

pub hears-refused : (es ns : List (ℕ × ℕ)) (old : Servers) (k v : ℕ) (r : Result Bool Refusal) → IsErrAnd r (λ e. e ≡ OutOfMemory) → mapped es ≡ old → IsTable es → HasRoom es k → last_in es k ≡ None → ns ≡ es → Hears old k v r (mapped ns)
hears-refused es ns old k v (Ok x) is view table room none same = absurd is
hears-refused es ns old k v (Err e) is view table room none same =
    let few : length es < beacon_servers = elim room.room [ inl e ↦ absurd (subst (λ (o : Option ℕ). is_some o ≡ true → ⊥) (sym none) (λ f. cc) e) | inr l ↦ l ] in
    let len : map.len old ≡ length es = ap (λ (m : Servers). map.len m) (sym view) ∙ table.once in
    subst (λ (x : Refusal). Hears old k v (Err x) (mapped ns)) (sym is) (get-held es old k view ∙ none, omega (arith, len, few), ap (λ (t : List (ℕ × ℕ)). mapped t) same ∙ view)

pub none-from_test : (o : Option ℕ) → is_some o ≡ false → o ≡ None
none-from_test None e = refl
none-from_test (Some x) e = absurd (cc)

-- ---- a beacon is taken back

abbrev pub Drops : List (ℕ × ℕ) → ℕ → List (ℕ × ℕ) → Type 0
Drops es k ns = (q : ℕ) → last_in ns q ≡ cond (is_at (nat_cmp k) q) None (last_in es q)

pub mapped-remove : (es ns : List (ℕ × ℕ)) (k : ℕ) → Drops es k ns → mapped ns ≡ map.remove (mapped es) k
mapped-remove es ns k drops =
    same_map nat_cmp_total nat_cmp-IsAntisymmetric (mapped ns) (map.remove (mapped es) k) (λ q. get-mapped ns q ∙ drops q ∙ ap (λ (b : Bool). cond b None (last_in es q)) ((eq_by_cmp_equiv nat_cmp_total).symm k q) ∙ sym (get-remove nat_cmp_total (mapped es) k q ∙ ap (λ (o : Option ℕ). cond (eq_by_cmp nat_cmp q k) None o) (get-mapped es q)))

less : (o : Option ℕ) (n m : ℕ) → m + cond (is_some o) 1 0 ≡ n → cond (is_some o) (n - 1) n ≡ m
less None n m is = omega (arith, is)
less (Some x) n m is = omega (arith, is)

pub drop-table : (es ns : List (ℕ × ℕ)) (k : ℕ) → IsTable es → Drops es k ns → length ns + cond (is_some (last_in es k)) 1 0 ≡ length es → IsTable ns
drop-table es ns k table drops shorter = record {
  once =
      ap (λ (m : Servers). map.len m) (mapped-remove es ns k drops)
      ∙ len-remove nat_cmp_total (mapped es) k
      ∙ ap (λ (o : Option ℕ). cond (is_some o) (map.len (mapped es) - 1) (map.len (mapped es))) (get-mapped es k)
      ∙ ap (λ (n : ℕ). cond (is_some (last_in es k)) (n - 1) n) table.once
      ∙ less (last_in es k) (length es) (length ns) shorter;
  within = omega (arith, table.within, shorter);
}

pub drop-restored : (es ns : List (ℕ × ℕ)) (old : Servers) (k : ℕ) → mapped es ≡ old → Drops es k ns → mapped ns ≡ restored old k None
drop-restored es ns old k view drops = mapped-remove es ns k drops ∙ ap (λ (m : Servers). map.remove m k) view

-- a number for a server that is kept
pub put-restored : (es ns : List (ℕ × ℕ)) (old : Servers) (k v : ℕ) → mapped es ≡ old → is_some (last_in es k) ≡ true → Puts es k v ns → mapped ns ≡ restored old k (Some v)
put-restored es ns old k v view kept puts =
    let is : is_some (map.get old k) ≡ true = ap is_some (get-held es old k view) ∙ kept in
    mapped-insert es ns k v puts ∙ ap (λ (m : Servers). map.insert m k v) view
    ∙ sym (ap (λ (b : Bool). cond b (map.insert old k v) old) is)

-- and for one that is not
pub none-restored : (es : List (ℕ × ℕ)) (old : Servers) (k v : ℕ) → mapped es ≡ old → last_in es k ≡ None → old ≡ restored old k (Some v)
none-restored es old k v view none =
    sym (ap (λ (o : Option ℕ). cond (is_some o) (map.insert old k v) old) (get-held es old k view ∙ none))

-- what a server has, if it is this one
tied : (t : Servers) (s q : ℕ) → eq_by_cmp nat_cmp q s ≡ true → map.get t s ≡ map.get t q
tied t s q same = get_tied nat_cmp_total t q s (equal (nat_cmp q s) same)
  where
    equal : (r : Ordering) → is_eq r ≡ true → r ≡ Equal
    equal Equal is = refl
    equal Less is = absurd (cc)
    equal Greater is = absurd (cc)

at-back : (t : Servers) (s q : ℕ) (o x : Option ℕ) (b : Bool) → map.get t s ≡ o → eq_by_cmp nat_cmp q s ≡ b → cond b o (cond b x (map.get t q)) ≡ map.get t q
at-back t s q o x true had is = sym had ∙ tied t s q is
at-back t s q o x false had is = refl

same-at : (s : ℕ) → eq_by_cmp nat_cmp s s ≡ true
same-at s = (eq_by_cmp_equiv nat_cmp_total).refl s

removed-insert : (t : Servers) (s n : ℕ) → map.get t s ≡ None → map.remove (map.insert t s n) s ≡ t
removed-insert t s n none =
    same_map nat_cmp_total nat_cmp-IsAntisymmetric (map.remove (map.insert t s n) s) t (λ q. get-remove nat_cmp_total (map.insert t s n) s q ∙ ap (λ (o : Option ℕ). cond (eq_by_cmp nat_cmp q s) None o) (get-insert nat_cmp_total t s n q) ∙ at-back t s q None (Some n) (eq_by_cmp nat_cmp q s) none refl)

removed-none : (t : Servers) (s : ℕ) → map.get t s ≡ None → map.remove t s ≡ t
removed-none t s none =
    same_map nat_cmp_total nat_cmp-IsAntisymmetric (map.remove t s) t (λ q. get-remove nat_cmp_total t s q ∙ by_test q (eq_by_cmp nat_cmp q s) refl)
  where
    by_test : (q : ℕ) (b : Bool) → eq_by_cmp nat_cmp q s ≡ b → cond b None (map.get t q) ≡ map.get t q
    by_test q true is = sym none ∙ tied t s q is
    by_test q false is = refl

inserted-twice : (t : Servers) (s n m : ℕ) → map.get t s ≡ Some m → map.insert (map.insert t s n) s m ≡ t
inserted-twice t s n m some =
    same_map nat_cmp_total nat_cmp-IsAntisymmetric (map.insert (map.insert t s n) s m) t (λ q. get-insert nat_cmp_total (map.insert t s n) s m q ∙ ap (λ (o : Option ℕ). cond (eq_by_cmp nat_cmp q s) (Some m) o) (get-insert nat_cmp_total t s n q) ∙ at-back t s q (Some m) (Some n) (eq_by_cmp nat_cmp q s) some refl)

-- a beacon that was noted, and is taken back
pub noted-back : (t : Servers) (s n : ℕ) → restored (noted t s n) s (map.get t s) ≡ t
noted-back t s n = by_value (map.get t s) refl
  where
    kept : (b : Bool) → map.get t s ≡ None → map.remove (cond b (map.insert t s n) t) s ≡ t
    kept true none = removed-insert t s n none
    kept false none = removed-none t s none

    by_value : (o : Option ℕ) → map.get t s ≡ o → restored (cond (is_some o || nat_lt (map.len t) beacon_servers) (map.insert t s n) t) s o ≡ t
    by_value None none = kept (nat_lt (map.len t) beacon_servers) none
    by_value (Some m) some =
        let there : map.get (map.insert t s n) s ≡ Some n =
        get-insert nat_cmp_total t s n s ∙ ap (λ (b : Bool). cond b (Some n) (map.get t s)) (same-at s) in
        ap (λ (o : Option ℕ). cond (is_some o) (map.insert (map.insert t s n) s m) (map.insert t s n)) there
        ∙ inserted-twice t s n m some
