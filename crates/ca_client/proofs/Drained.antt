-- The ends of circuits, whose completions are handed over one end after another.
use Rattle.std.proofs.Common.{◌≡◌, ℕ, suc, ◌+◌, ◌<◌, ◌≤◌, List, [], ◌∷◌, ◌++◌, map, length, get_or, set, refl, sym, ap, ◌∙◌, subst, arith, append_assoc, length-append}
use Rattle.std.specs.Prelude.{is_none, slice_set}
use Rattle.std.proofs.lemmas.List.{length-map}
use Rattle.std.proofs.lemmas.List.Elements.{filter-append, filter_map-append}
use Rattle.ca_board.specs.declared.ticket.Ticket.{Ticket}
use Rattle.ca_board.specs.Views.{CoreView}
use Rattle.ca_client_core.specs.Ticked.{lefts_of, notices_of}
use Rattle.ca_client_core.specs.declared.ticking.Left.{Left}
use Rattle.ca_model.specs.Answers.{Notice}
use Rattle.ca_client_core.specs.Notices.{Completion, completion, completions}
use Rattle.ca_client.specs.Awaited.{Fillable, FillsAll, others}
use Rattle.ca_client.proofs.Lists.{append-nil}
use Rattle.ca_client.specs.Draining.{Draining, drained}

-- ---- fills one after another

pub fills-append : (ts : List Ticket) (v u w : CoreView) (cs ds : List Completion) → FillsAll ts v cs u → FillsAll ts u ds w → FillsAll ts v (cs ++ ds) w
fills-append ts v u w [] ds a b = subst (λ (x : CoreView). FillsAll ts x ds w) a b
fills-append ts v u w (c ∷ cs) ds a b = (a.0, a.1, fills-append ts a.0 u w cs ds a.2 b)

pub fillable-first : (ts : List Ticket) (v : CoreView) (cs ds : List Completion) → Fillable ts v (cs ++ ds) → Fillable ts v cs
fillable-first ts v [] ds f = tt
fillable-first ts v (c ∷ cs) ds f = (f.0, f.1, λ u g. fillable-first ts u cs ds (f.2 u g))

pub fillable-then : (ts : List Ticket) (v u : CoreView) (cs ds : List Completion) → Fillable ts v (cs ++ ds) → FillsAll ts v cs u → Fillable ts u ds
fillable-then ts v u [] ds f g = subst (λ (x : CoreView). Fillable ts x ds) (sym g) f
fillable-then ts v u (c ∷ cs) ds f g = fillable-then ts g.0 u cs ds (f.2 g.0 g.1) g.2

-- ---- ends

told-cons : (l : Left) (ls : List Left) → completions (notices_of (l ∷ ls)) ≡ completions l.notices ++ completions (notices_of ls)
told-cons l ls = filter_map-append completion l.notices (notices_of ls)

others-drained : (ls : List Left) → notices_of (map drained ls) ≡ others (notices_of ls)
others-drained [] = refl
others-drained (l ∷ ls) =
    ap (λ (ns : List Notice). others l.notices ++ ns) (others-drained ls) ∙ sym (filter-append (λ (n : Notice). is_none (completion n)) l.notices (notices_of ls))

lefts-drained : (ls : List Left) → lefts_of (map drained ls) ≡ lefts_of ls
lefts-drained [] = refl
lefts-drained (l ∷ ls) = ap (λ rest. record { circuit = l.circuit; bytes = l.bytes } ∷ rest) (lefts-drained ls)

get-middle : (xs ys : List Left) (y d : Left) → get_or (xs ++ y ∷ ys) (length xs) d ≡ y
get-middle [] ys y d = refl
get-middle (x ∷ xs) ys y d = get-middle xs ys y d

set-middle : (xs ys : List Left) (y z : Left) → set (xs ++ y ∷ ys) (length xs) z ≡ xs ++ z ∷ ys
set-middle [] ys y z = refl
set-middle (x ∷ xs) ys y z = ap (λ rest. x ∷ rest) (set-middle xs ys y z)

map-more : (xs : List Left) (y : Left) (ys : List Left) → map drained xs ++ drained y ∷ ys ≡ map drained (xs ++ y ∷ []) ++ ys
map-more [] y ys = refl
map-more (x ∷ xs) y ys = ap (λ rest. drained x ∷ rest) (map-more xs y ys)

pub draining-start : (ts : List Ticket) (v : CoreView) (ls : List Left) → Fillable ts v (completions (notices_of ls)) → Draining ts v ls v ls 0
draining-start ts v ls f = record { before = []; after = ls; split = refl; items_are = refl; count = refl; due = f; fills = λ w g. g }

-- the end at this place
here : (before : List Left) (l : Left) (after items : List Left) (i : ℕ) (d : Left) → items ≡ map drained before ++ l ∷ after → length before ≡ i → d ≡ get_or items i d → d ≡ l
here before l after items i d are count e =
    e ∙ ap (λ (xs : List Left). get_or xs i d) are
    ∙ ap (λ (n : ℕ). get_or (map drained before ++ l ∷ after) n d) (sym count ∙ sym (length-map before drained))
    ∙ get-middle (map drained before) after l d

due-at : (ts : List Ticket) (v : CoreView) (before after items : List Left) (i : ℕ) (d : Left) → items ≡ map drained before ++ after → length before ≡ i → i < length items → Fillable ts v (completions (notices_of after)) → d ≡ get_or items i d → Fillable ts v (completions d.notices)
due-at ts v before [] items i d are count lt f e =
    let n : length items ≡ length (map drained before) + 0 = ap (λ (xs : List Left). length xs) are ∙ length-append (map drained before) [] in
    let m : length (map drained before) ≡ length before = length-map before drained in
    absurd (omega (arith, n, m, count, lt))
due-at ts v before (l ∷ after) items i d are count lt f e =
    let is : d ≡ l = here before l after items i d are count e in
    subst (λ (x : Left). Fillable ts v (completions x.notices)) (sym is)
    (fillable-first ts v (completions l.notices) (completions (notices_of after)) (subst (Fillable ts v) (told-cons l after) f))

pub draining-length : (ts : List Ticket) (v₀ v : CoreView) (ls items : List Left) (i : ℕ) → Draining ts v₀ ls v items i → length items ≡ length ls
draining-length ts v₀ v ls items i r =
    ap (λ (xs : List Left). length xs) r.items_are ∙ length-append (map drained r.before) r.after ∙ ap (λ (n : ℕ). n + length r.after) (length-map r.before drained)
    ∙ sym (length-append r.before r.after) ∙ sym (ap (λ (xs : List Left). length xs) r.split)

pub draining-due : (ts : List Ticket) (v₀ v : CoreView) (ls items : List Left) (i : ℕ) (d : Left) → Draining ts v₀ ls v items i → i < length items → d ≡ get_or items i d → Fillable ts v (completions d.notices)
draining-due ts v₀ v ls items i d r lt e = due-at ts v r.before r.after items i d r.items_are r.count lt r.due e

next-at : (ts : List Ticket) (v₀ v v' : CoreView) (ls before after items : List Left) (i : ℕ) (d : Left) (rest : List Notice) → ls ≡ before ++ after → items ≡ map drained before ++ after → length before ≡ i → i < length items → Fillable ts v (completions (notices_of after))
    → ((w : CoreView) → FillsAll ts v (completions (notices_of after)) w → FillsAll ts v₀ (completions (notices_of ls)) w) → d ≡ get_or items i d → FillsAll ts v (completions d.notices) v' → rest ≡ others d.notices
    → Draining ts v₀ ls v' (slice_set items i (record d { notices = rest })) (i + 1)
next-at ts v₀ v v' ls before [] items i d rest split are count lt f fills e g left =
    let n : length items ≡ length (map drained before) + 0 = ap (λ (xs : List Left). length xs) are ∙ length-append (map drained before) [] in
    let m : length (map drained before) ≡ length before = length-map before drained in
    absurd (omega (arith, n, m, count, lt))
next-at ts v₀ v v' ls before (l ∷ after) items i d rest split are count lt f fills e g left =
    let is : d ≡ l = here before l after items i d are count e in
    let filled : FillsAll ts v (completions l.notices) v' = subst (λ (x : Left). FillsAll ts v (completions x.notices) v') is g in
    let whole : Fillable ts v (completions l.notices ++ completions (notices_of after)) = subst (Fillable ts v) (told-cons l after) f in
    let new : Left = record d { notices = rest } in
    let rest_is : rest ≡ others l.notices = left ∙ ap (λ (x : Left). others x.notices) is in
    let new_is : new ≡ drained l = subst (λ (a : Left × List Notice). record a.0 { notices = a.1 } ≡ drained l) (λ j. (sym is j, sym rest_is j)) refl in
    let at : i ≡ length (map drained before) = sym count ∙ sym (length-map before drained) in
    record {
      before = before ++ l ∷ [];
      after = after;
      split = split ∙ sym (append_assoc before (l ∷ []) after);
      items_are = subst (λ (a : List Left × (ℕ × Left)). slice_set a.0 a.1.0 a.1.1 ≡ map drained before ++ drained l ∷ after) (λ j. (sym are j, (sym at j, sym new_is j))) (set-middle (map drained before) after l (drained l))
          ∙ map-more before l after;
      count = length-append before (l ∷ []) ∙ ap (λ (n : ℕ). n + 1) count;
      due = fillable-then ts v v' (completions l.notices) (completions (notices_of after)) whole filled;
      fills = λ w h. fills w (subst (λ (cs : List Completion). FillsAll ts v cs w) (sym (told-cons l after)) (fills-append ts v v' w (completions l.notices) (completions (notices_of after)) filled h));
    }

pub draining-next : (ts : List Ticket) (v₀ v v' : CoreView) (ls items : List Left) (i : ℕ) (d : Left) (rest : List Notice) → Draining ts v₀ ls v items i → i < length items → d ≡ get_or items i d → FillsAll ts v (completions d.notices) v' → rest ≡ others d.notices
    → Draining ts v₀ ls v' (slice_set items i (record d { notices = rest })) (i + 1)
draining-next ts v₀ v v' ls items i d rest r lt e g left =
    next-at ts v₀ v v' ls r.before r.after items i d rest r.split r.items_are r.count lt r.due r.fills e g left

pub record Drained (ts : List Ticket) (v₀ : CoreView) (ls : List Left) (v : CoreView) (items : List Left) : Type 0 where
  pub fills : FillsAll ts v₀ (completions (notices_of ls)) v
  pub others_are : notices_of items ≡ others (notices_of ls)
  pub lefts : lefts_of items ≡ lefts_of ls

end-at : (ts : List Ticket) (v₀ v : CoreView) (ls before after items : List Left) (i : ℕ) → ls ≡ before ++ after → items ≡ map drained before ++ after → length before ≡ i → length items ≤ i
    → ((w : CoreView) → FillsAll ts v (completions (notices_of after)) w → FillsAll ts v₀ (completions (notices_of ls)) w) → Drained ts v₀ ls v items
end-at ts v₀ v ls before (l ∷ after) items i split are count le fills =
    let n : length items ≡ length (map drained before) + suc (length after) = ap (λ (xs : List Left). length xs) are ∙ length-append (map drained before) (l ∷ after) in
    let m : length (map drained before) ≡ length before = length-map before drained in
    absurd (omega (arith, n, m, count, le))
end-at ts v₀ v ls before [] items i split are count le fills =
    let all : ls ≡ before = split ∙ append-nothing before in
    let items_all : items ≡ map drained before = are ∙ append-nothing (map drained before) in
    record {
      fills = fills v refl;
      others_are = ap notices_of items_all ∙ others-drained before ∙ ap (λ (xs : List Left). others (notices_of xs)) (sym all);
      lefts = ap lefts_of items_all ∙ lefts-drained before ∙ ap lefts_of (sym all);
    }
  where
    append-nothing : (xs : List Left) → xs ++ [] ≡ xs
    append-nothing xs = append-nil xs

pub draining-end : (ts : List Ticket) (v₀ v : CoreView) (ls items : List Left) (i : ℕ) → Draining ts v₀ ls v items i → length items ≤ i → Drained ts v₀ ls v items
draining-end ts v₀ v ls items i r le = end-at ts v₀ v ls r.before r.after items i r.split r.items_are r.count le r.fills
