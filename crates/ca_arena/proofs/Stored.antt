-- What the blocks stand for, before and after each change.
use Rattle.std.proofs.Common.{◌≡◌, ℕ, zero, suc, ◌+◌, ◌-◌, ◌*◌, ◌/◌, ◌%◌, ◌<◌, ◌≤◌, List, [], ◌∷◌, ◌++◌, length, get_or, set, slice_get, refl, sym, ap, ◌∙◌, subst, arith, append_assoc, append-nil, length-append, length-set}
use Rattle.std.proofs.lemmas.List.{length_push, set-append_left, set-append_right}
use Rattle.ca_arena.specs.declared.block.Block.{Block}
use Rattle.ca_arena.specs.Block.{block_slots}
use Rattle.ca_arena.specs.BlockLending.{with_items}
use Rattle.ca_arena.specs.StoredLayout.{all_items, stored_of, AreFilled}

-- which block an index lies in, and in which of its slots
abbrev pub block_of : ℕ → ℕ
block_of index = index / block_slots

abbrev pub slot_of : ℕ → ℕ
slot_of index = index % block_slots

pub slot_below : (index : ℕ) → slot_of index < block_slots
slot_below index = omega arith

divided : (index : ℕ) → index ≡ block_of index * block_slots + slot_of index
divided index = omega arith

-- an index in the second of two lists, one in the first
module _ {X : Type 0} where
  get_right : (xs ys : List X) (i k : ℕ) → i ≡ length xs + k → slice_get (xs ++ ys) i ≡ slice_get ys k
  get_right [] ys i k at = let same : i ≡ k = omega arith in ap (slice_get ys) same
  get_right (x ∷ xs) ys zero k at = absurd (omega arith)
  get_right (x ∷ xs) ys (suc i) k at = get_right xs ys i k (omega arith)

  get_left : (xs ys : List X) (i : ℕ) → i < length xs → slice_get (xs ++ ys) i ≡ slice_get xs i
  get_left [] ys i within = absurd (omega arith)
  get_left (x ∷ xs) ys zero within = refl
  get_left (x ∷ xs) ys (suc i) within = get_left xs ys i (omega arith)

  none_left : (xs ys : List X) → xs ++ ys ≡ [] → (xs ≡ []) × (ys ≡ [])
  none_left [] ys none = (refl, none)
  none_left (x ∷ xs) ys none = absurd (cc)

module _ {X A : Type 0} where
  pub length-all : (count : ℕ) (blocks : List (Block X A)) → AreFilled count blocks → length (all_items blocks) ≡ count
  length-all count [] filled = sym filled
  length-all count (block ∷ rest) filled = omega (arith, filled.0, length-append block.items (all_items rest), length-all (count - block_slots) rest filled.1)

  pub within_room : (count : ℕ) (blocks : List (Block X A)) → AreFilled count blocks → count ≤ length blocks * block_slots
  within_room count [] filled = omega arith
  within_room count (block ∷ rest) filled = omega (arith, within_room (count - block_slots) rest filled.1)

  -- no item in any block
  nothing_in : (blocks : List (Block X A)) → AreFilled 0 blocks → all_items blocks ≡ []
  nothing_in [] filled = refl
  nothing_in (block ∷ rest) filled = none block.items (all_items rest) filled.0 (nothing_in rest filled.1)
    where
      none : (xs ys : List X) → length xs ≡ 0 → ys ≡ [] → xs ++ ys ≡ []
      none [] ys no_x no_y = no_y
      none (x ∷ xs) ys no_x no_y = absurd (omega arith)

  -- the block of an index, as it is read: one that there is
  pub record Reads (blocks : List (Block X A)) (q : ℕ) (block : Block X A) : Type 0 where
    pub within : q < length blocks
    pub read : block ≡ get_or blocks q block

  later : (first : Block X A) (rest : List (Block X A)) (q : ℕ) (block : Block X A) → Reads (first ∷ rest) (suc q) block → Reads rest q block
  later first rest q block reads = record { within = omega (arith, reads.within); read = reads.read }

  -- ---- an item that there is

  pub record Finds (items : List X) (index : ℕ) (block : Block X A) (slot : ℕ) : Type 0 where
    pub used : slot < length block.items
    pub same : slice_get block.items slot ≡ slice_get items index

  pub finds : (count index q slot : ℕ) (blocks : List (Block X A)) (block : Block X A) → AreFilled count blocks → index < count → index ≡ q * block_slots + slot → slot < block_slots → Reads blocks q block → Finds (all_items blocks) index block slot
  finds count index q slot [] block filled within at below reads = absurd (omega (arith, reads.within))
  finds count index zero slot (first ∷ rest) block filled within at below reads =
      let here : slot ≡ index = omega arith in
      let used : slot < length first.items = omega (arith, filled.0) in
      let on : Finds (all_items (first ∷ rest)) index first slot = record { used = used; same = sym (get_left first.items (all_items rest) slot used) ∙ ap (slice_get (first.items ++ all_items rest)) here } in
      subst (λ b. Finds (all_items (first ∷ rest)) index b slot) (sym reads.read) on
  finds count index (suc q) slot (first ∷ rest) block filled within at below reads =
      let on = finds (count - block_slots) (index - block_slots) q slot rest block filled.1 (omega arith) (omega arith) below (later first rest q block reads) in
      record { used = on.used; same = on.same ∙ sym (get_right first.items (all_items rest) index (index - block_slots) (omega (arith, filled.0))) }

  -- ---- another item in its place

  pub record Leaves (blocks : List (Block X A)) (count : ℕ) (now : List X) : Type 0 where
    pub filled : AreFilled count blocks
    pub items : all_items blocks ≡ now

  pub changes : (count index q slot : ℕ) (blocks : List (Block X A)) (block : Block X A) (item : X) → AreFilled count blocks → index < count → index ≡ q * block_slots + slot → slot < block_slots → Reads blocks q block
      → Leaves (set blocks q (with_items block (set block.items slot item))) count (set (all_items blocks) index item)
  changes count index q slot [] block item filled within at below reads = absurd (omega (arith, reads.within))
  changes count index zero slot (first ∷ rest) block item filled within at below reads =
      let here : slot ≡ index = omega arith in
      let used : slot < length first.items = omega (arith, filled.0) in
      let on : Leaves (with_items first (set first.items slot item) ∷ rest) count (set (all_items (first ∷ rest)) index item) = record {
        filled = (length-set first.items slot item ∙ filled.0, filled.1);
        items = sym (set-append_left first.items (all_items rest) slot item used) ∙ ap (λ i. set (first.items ++ all_items rest) i item) here;
      } in
      subst (λ b. Leaves (with_items b (set b.items slot item) ∷ rest) count (set (all_items (first ∷ rest)) index item)) (sym reads.read) on
  changes count index (suc q) slot (first ∷ rest) block item filled within at below reads =
      let on = changes (count - block_slots) (index - block_slots) q slot rest block item filled.1 (omega arith) (omega arith) below (later first rest q block reads) in
      record {
        filled = (filled.0, on.filled);
        items = ap (λ l. first.items ++ l) on.items ∙ sym (set-append_right first.items (all_items rest) block_slots index item (omega (arith, filled.0)) (omega arith));
      }

  -- ---- an item after the others

  pub record Pushed (count q slot : ℕ) (blocks : List (Block X A)) (block : Block X A) (item : X) : Type 0 where
    pub next : slot ≡ length block.items
    pub after : Leaves (set blocks q (with_items block (block.items ++ item ∷ []))) (count + 1) (all_items blocks ++ item ∷ [])

  pub pushes : (count q slot : ℕ) (blocks : List (Block X A)) (block : Block X A) (item : X) → AreFilled count blocks → count ≡ q * block_slots + slot → slot < block_slots → Reads blocks q block → Pushed count q slot blocks block item
  pushes count q slot [] block item filled at below reads = absurd (omega (arith, reads.within))
  pushes count zero slot (first ∷ rest) block item filled at below reads =
      let none : count - block_slots ≡ 0 = omega arith in
      let more : count + 1 - block_slots ≡ 0 = omega arith in
      let empty : AreFilled 0 rest = subst (λ n. AreFilled n rest) none filled.1 in
      let behind : all_items rest ≡ [] = nothing_in rest empty in
      let long = length_push first.items item in
      let on : Pushed count 0 slot (first ∷ rest) first item = record {
        next = omega (arith, filled.0);
        after = record {
          filled = (omega (arith, filled.0, long), subst (λ n. AreFilled n rest) (sym more) empty);
          items = ap (λ l. (first.items ++ item ∷ []) ++ l) behind ∙ (append-nil (first.items ++ item ∷ []) ∙ ap (λ l. l ++ item ∷ []) (sym (append-nil first.items) ∙ ap (λ l. first.items ++ l) (sym behind)));
        };
      } in
      subst (λ b. Pushed count 0 slot (first ∷ rest) b item) (sym reads.read) on
  pushes count (suc q) slot (first ∷ rest) block item filled at below reads =
      let on = pushes (count - block_slots) q slot rest block item filled.1 (omega arith) below (later first rest q block reads) in
      let more : count - block_slots + 1 ≡ count + 1 - block_slots = omega arith in
      record {
        next = on.next;
        after = record {
          filled = (omega (arith, filled.0), subst (λ n. AreFilled n (set rest q (with_items block (block.items ++ item ∷ [])))) more on.after.filled);
          items = ap (λ l. first.items ++ l) on.after.items ∙ sym (append_assoc first.items (all_items rest) (item ∷ []));
        };
      }

  -- ---- the last item is not there

  pub record Popped (last q : ℕ) (blocks : List (Block X A)) (left : Block X A) (item : X) : Type 0 where
    pub filled : AreFilled last (set blocks q left)
    pub items : all_items blocks ≡ all_items (set blocks q left) ++ item ∷ []

  pub is_last : (last q slot : ℕ) (blocks : List (Block X A)) (block : Block X A) → AreFilled (last + 1) blocks → last ≡ q * block_slots + slot → slot < block_slots → Reads blocks q block → slot + 1 ≡ length block.items
  is_last last q slot [] block filled at below reads = absurd (omega (arith, reads.within))
  is_last last zero slot (first ∷ rest) block filled at below reads = omega (arith, filled.0, ap (λ b. length b.items) reads.read)
  is_last last (suc q) slot (first ∷ rest) block filled at below reads =
      let fewer : last + 1 - block_slots ≡ last - block_slots + 1 = omega arith in
      is_last (last - block_slots) q slot rest block (subst (λ n. AreFilled n rest) fewer filled.1) (omega arith) below (later first rest q block reads)

  pub pops : (last q slot : ℕ) (blocks : List (Block X A)) (block left : Block X A) (item : X) → AreFilled (last + 1) blocks → last ≡ q * block_slots + slot → slot < block_slots → Reads blocks q block → block ≡ with_items left (left.items ++ item ∷ []) → Popped last q blocks left item
  pops last q slot [] block left item filled at below reads made = absurd (omega (arith, reads.within))
  pops last zero slot (first ∷ rest) block left item filled at below reads made =
      let none : last + 1 - block_slots ≡ 0 = omega arith in
      let fewer : last - block_slots ≡ 0 = omega arith in
      let empty : AreFilled 0 rest = subst (λ n. AreFilled n rest) none filled.1 in
      let behind : all_items rest ≡ [] = nothing_in rest empty in
      let was : first.items ≡ left.items ++ item ∷ [] = ap (λ b. b.items) (sym reads.read ∙ made) in
      let long : length first.items ≡ length left.items + 1 = ap length was ∙ length_push left.items item in
      record {
        filled = (omega (arith, filled.0), subst (λ n. AreFilled n rest) (sym fewer) empty);
        items = ap (λ l. first.items ++ l) behind ∙ (append-nil first.items ∙ (was ∙ ap (λ l. l ++ item ∷ []) (sym (append-nil left.items) ∙ ap (λ l. left.items ++ l) (sym behind))));
      }
  pops last (suc q) slot (first ∷ rest) block left item filled at below reads made =
      let fewer : last + 1 - block_slots ≡ last - block_slots + 1 = omega arith in
      let on = pops (last - block_slots) q slot rest block left item (subst (λ n. AreFilled n rest) fewer filled.1) (omega arith) below (later first rest q block reads) made in
      record { filled = (omega (arith, filled.0), on.filled); items = ap (λ l. first.items ++ l) on.items ∙ sym (append_assoc first.items (all_items (set rest q left)) (item ∷ [])) }

  -- ---- a further block, with no item

  pub grows : (count : ℕ) (blocks : List (Block X A)) (block : Block X A) → AreFilled count blocks → block.items ≡ [] → Leaves (blocks ++ block ∷ []) count (all_items blocks)
  grows count [] block filled empty = record { filled = (omega (arith, ap length empty), omega arith); items = ap (λ l. l ++ []) empty }
  grows count (first ∷ rest) block filled empty =
      let on = grows (count - block_slots) rest block filled.1 empty in
      record { filled = (filled.0, on.filled); items = ap (λ l. first.items ++ l) on.items }

  -- where no block has an item, none of the first ones has, and the last one has none
  pub none_before : (blocks more : List (Block X A)) → all_items (blocks ++ more) ≡ [] → all_items blocks ≡ []
  none_before [] more none = refl
  none_before (block ∷ rest) more none =
      let both = none_left block.items (all_items (rest ++ more)) none in
      ap (λ l. l ++ all_items rest) both.0 ∙ none_before rest more both.1

  pub none_in_last : (blocks : List (Block X A)) (block : Block X A) → all_items (blocks ++ block ∷ []) ≡ [] → block.items ≡ []
  none_in_last [] block none = (none_left block.items [] none).0
  none_in_last (first ∷ rest) block none = none_in_last rest block (none_left first.items (all_items (rest ++ block ∷ [])) none).1

  -- where the items are these, and there are as many blocks
  pub stands_for : (blocks after : List (Block X A)) (items : List X) → all_items after ≡ items → length after ≡ length blocks → stored_of after ≡ record { items = items; room = length blocks * block_slots }
  stands_for blocks after items same long = λ i. record { items = same i; room = long i * block_slots }

  -- ---- the same where an index says which block and which slot

  module _ (count index : ℕ) (blocks : List (Block X A)) (block : Block X A) (filled : AreFilled count blocks) (read : block ≡ get_or blocks (block_of index) block) where
    there : index < length blocks * block_slots → Reads blocks (block_of index) block
    there within = record { within = omega arith; read = read }

    pub found : index < count → Finds (all_items blocks) index block (slot_of index)
    found within = finds count index (block_of index) (slot_of index) blocks block filled within (divided index) (slot_below index) (there (omega (arith, within_room count blocks filled)))

    pub changed : index < count → (item : X) → Leaves (set blocks (block_of index) (with_items block (set block.items (slot_of index) item))) count (set (all_items blocks) index item)
    changed within item = changes count index (block_of index) (slot_of index) blocks block item filled within (divided index) (slot_below index) (there (omega (arith, within_room count blocks filled)))

    pub pushed : index ≡ count → index < length blocks * block_slots → (item : X) → Pushed count (block_of index) (slot_of index) blocks block item
    pushed end within item = pushes count (block_of index) (slot_of index) blocks block item filled (omega arith) (slot_below index) (there within)

    pub ends : count ≡ index + 1 → slot_of index + 1 ≡ length block.items
    ends end = is_last index (block_of index) (slot_of index) blocks block (subst (λ n. AreFilled n blocks) end filled) (divided index) (slot_below index) (there (omega (arith, within_room count blocks filled)))

    pub popped : count ≡ index + 1 → (left : Block X A) (item : X) → block ≡ with_items left (left.items ++ item ∷ []) → Popped index (block_of index) blocks left item
    popped end left item made = pops index (block_of index) (slot_of index) blocks block left item (subst (λ n. AreFilled n blocks) end filled) (divided index) (slot_below index) (there (omega (arith, within_room count blocks filled))) made
