-- The cursor over the places of an accepted list drives as the plan over its transactions does, tick by tick, for any lines. Assumes nothing.
use Prim.Native.Nat.{ℕ, zero, suc, ◌+◌, ◌-◌, ◌*◌, ◌%◌, ◌<◌, ◌≤◌}
use mathlib.Core.Path.{◌≡◌, refl, ap, ap₂, sym, subst, ◌∙◌}
use mathlib.Core.Bool.{Bool, true, false, cond}
use mathlib.Core.List.{List, [], ◌∷◌}
use native.Mathlib.Omega.{arith}
use native.Mathlib.Nat.{mod-eq_of_lt, add_assoc}
use borrow.Author.Tests.{lt-ltb, le-ltb, leb-true, eq-eqb, ne_eqb}
use lib.Dec.{eqb}
use lib.ListN.{length, get_or, take, drop}
use lib.Seq.{drop-cons}
use Rattle.lines.specs.Levels.{bit_at}
use Rattle.kinds.specs.Kinds.{most_bytes, is_write, is_critical, address_right, data_of, quota_of, follow, remain}
use Rattle.kinds.specs.declared.Quota.{Quota}
use Rattle.kinds.proofs.KindLaws.{most_bytes_lem, short_length, data_written, follow_remain}
use Rattle.orders.specs.Form.{Message, Transaction, whole, message_at}
use Rattle.orders.specs.Asking.{put, get, order_of, address_byte}
use Rattle.orders.specs.Places.{Stands, ended, begins, follows, size_at, room_at}
use Rattle.orders.specs.Results.{Slotted, Batch, slots_of, slots_of_all, slotted, batches}
use Rattle.orders.specs.Marks.{heard, written, closed, broke, read_mark, Log, note}
use Rattle.orders.proofs.WholeMessage.{message_inv, message_size, message_room, message_below, message_slots}
use Rattle.symbols.specs.Faults.{outcome_of}
use Rattle.symbols.specs.Ticks.{clocked}
use Rattle.symbols.specs.declared.Symbol.TheVariants.{Sent}
use Rattle.symbols.specs.declared.Fault.{Fault}
use Rattle.cursor.specs.Cursor.{wrap, acts, carries_on, address_at, data_at, passed, passed_all, goes_on, refused_by, puts_on, gets_on, carries_out, opens_at, opens_after, step_in, step_of, note_in, note_of, ask_in, ask_of, Spot, places}
use Rattle.cursor.specs.declared.Act.{Act}
use Rattle.cursor.specs.declared.Act.TheVariants.{Opens, Reopens, Closes, Finishes, Addresses, Hears, Puts, Awaits, Gets, Answers}
use Rattle.cursor.specs.declared.Cursor.{Cursor}
use Rattle.controller.specs.Plan.{Job, opening, reopening, closing, finished, addressing, addressed, writing, wrote, reading, answering, Context, State, asks, does, marked, go_on, refused, writes, reads, carries, opens, step, orders}

-- the same message is under way, and the same ones are to come
pub record Here (list : List ℕ) (at left slot : ℕ) (m : Slotted) (todo : List Slotted) (after : List Batch) : Type 0 where
  pub next : ℕ
  pub others : List Message
  pub later : List Transaction
  pub message : message_at list at ≡ whole m.message next
  pub stands : Stands list next others later
  pub todo_is : todo ≡ slotted (slot + slots_of m.message) others
  pub after_is : after ≡ batches (slot + slots_of m.message + slots_of_all others) later
  pub left_is : left ≡ length others
  pub slot_is : m.slot ≡ slot
  pub small : slot ≤ 257 * at

-- a data byte under way has a place in the list, with those after it
pub record Sends (list : List ℕ) (at count more : ℕ) : Type 0 where
  pub room : at + 3 + count + more < length list
  pub few : count + more < 255

module _ (list : List ℕ) where
  abbrev pub Within : Cursor → Context → Type 0
  Within c x = Here list c.at c.left c.slot x.now x.todo x.later

  abbrev pub rest_of : Cursor → List ℕ
  rest_of c = take c.more (drop (suc (c.at + 3 + c.count)) list)

  abbrev pub Doing : Act → Cursor → Job → Context → Type 0
  Doing (Opens w) c j x = (j ≡ opening w) × Within c x
  Doing Reopens c j x = (j ≡ reopening) × Within c x
  Doing Closes c j x = (j ≡ closing) × Within c x
  Doing Finishes c j x = j ≡ finished
  Doing (Addresses k) c j x = (j ≡ addressing k) × Within c x
  Doing Hears c j x = (j ≡ addressed) × Within c x
  Doing (Puts k) c j x = (j ≡ writing k c.count (data_at list c) (rest_of c)) × Within c x × Sends list c.at c.count c.more
  Doing Awaits c j x = (j ≡ wrote c.count (data_at list c) (rest_of c)) × Within c x × Sends list c.at c.count c.more
  Doing (Gets k y q) c j x = (j ≡ reading k c.count y q) × Within c x × ((z : ℕ) → c.count + follow q z < 255)
  Doing (Answers y q) c j x = (j ≡ answering c.count y q) × Within c x × ((z : ℕ) → c.count + follow q z < 255)

  pub record Alike (c : Cursor) (l : Log) (t : State) : Type 0 where
    pub doing : Doing c.act c t.job t.context
    pub top : t.context.top ≡ c.top
    pub log : t.context.log ≡ l

-- what stands in an accepted list is far below the cursor's wrap
module _ (list : List ℕ) (short : length list ≤ most_bytes) where
  wraps : (n : ℕ) → n ≤ 33554432 → n % wrap ≡ n
  unfolding wrap
  wraps n h = mod-eq_of_lt (omega arith)

  some : (n : ℕ) → eqb (suc n) 0 ≡ false
  some n = ne_eqb (suc n) 0 (λ z. omega arith)

  one_more_lem : (n : ℕ) → n < 255 → n % 255 + 1 ≡ suc n
  one_more_lem n h = rw (mod-eq_of_lt h) (omega arith)

  module _ (at next : ℕ) (m : Message) (e : message_at list at ≡ whole m next) where
    at_next : (at + size_at list at) % wrap ≡ next
    at_next =
        let s = message_size list at m next e in
        let i = message_inv list at m next e in
        let r = i.room in
        let b = most_bytes_lem in
        rw s (wraps next (omega arith))

    slot_next : (slot : ℕ) → slot ≤ 257 * at → (slot + room_at list at) % wrap ≡ slot + slots_of m
    slot_next slot h =
        let r = message_room list at m next e in
        let f = message_slots list at m next e in
        let g = message_below list at m next e in
        let b = most_bytes_lem in
        rw r (wraps (slot + slots_of m) (omega arith))

    small_next : (slot : ℕ) → slot ≤ 257 * at → slot + slots_of m ≤ 257 * next
    small_next slot h =
        let f = message_slots list at m next e in
        let i = message_inv list at m next e in
        let n = i.next in
        omega arith

    address_same : address_at list at ≡ address_byte m
    unfolding address_right
    address_same =
        let i = message_inv list at m next e in
        let a : m.address ≤ 127 = leb-true _ _ i.right_address in
        rw (i.address, i.kind) (go (is_write m.kind) m.address a)
      where
        go : (w : Bool) (a : ℕ) → a ≤ 127 → (a * 2 + cond w 0 1) % 256 ≡ a * 2 + cond w 0 1
        go true a h = mod-eq_of_lt (omega arith)
        go false a h = mod-eq_of_lt (omega arith)

  -- the message is over
  goes : (c : Cursor) (x : Context) → Within list c x → x.top ≡ c.top → Alike list (goes_on list c) x.log (go_on x.todo x)
  unfolding goes_on slotted slots_of_all
  goes c x h t = subst (λ (s : List Slotted). Alike list (goes_on list c) x.log (go_on s x)) (sym h.todo_is)
      (cases h.others h.stands h.after_is h.left_is)
    where
      n : ℕ
      n = c.slot + slots_of x.now.message

      cases : (ms : List Message) → Stands list h.next ms h.later → x.later ≡ batches (n + slots_of_all ms) h.later → c.left ≡ length ms
          → Alike list (cond (eqb c.left 0) (acts Closes c) (acts Reopens (passed list c))) x.log (go_on (slotted n ms) x)
      cases [] s a l = rw (eq-eqb c.left 0 l) (record { doing = (refl, h); top = t; log = refl })
      cases (m ∷ ms) (follows {q = q} i s) a l =
          let z : c.left ≡ 0 → ⊥ = λ z. omega arith in
          let k : c.left - 1 ≡ length ms = omega arith in
          let e = at_next c.at h.next x.now.message h.message in
          let f = slot_next c.at h.next x.now.message h.message c.slot h.small in
          let w : Here list ((c.at + size_at list c.at) % wrap) (c.left - 1) ((c.slot + room_at list c.at) % wrap) (record { message = m; slot = n }) (slotted (n + slots_of m) ms) x.later =
          rw (e, f) (record {
            next = q;
            others = ms;
            later = h.later;
            message = i;
            stands = s;
            todo_is = refl;
            after_is = a ∙ ap (λ (y : ℕ). batches y h.later) (sym (add_assoc n (slots_of m) (slots_of_all ms)));
            left_is = k;
            slot_is = refl;
            small = small_next c.at h.next x.now.message h.message c.slot h.small;
          }) in
          rw (ne_eqb c.left 0 z) (record { doing = (refl, w); top = t; log = refl })

  -- after a 1
  refuses : (c : Cursor) (x : Context) → Within list c x → x.top ≡ c.top → Alike list (refused_by list c) x.log (refused x)
  unfolding refused_by
  refuses c x h t = let i = message_inv list c.at x.now.message h.next h.message in
      subst (λ (k : ℕ). Alike list (cond (is_critical k) (acts Closes c) (goes_on list c)) x.log (refused x)) (sym i.kind)
      (cases (is_critical x.now.message.kind))
    where
      cases : (b : Bool) → Alike list (cond b (acts Closes c) (goes_on list c)) x.log (cond b (does closing x) (go_on x.todo x))
      cases true = record { doing = (refl, h); top = t; log = refl }
      cases false = goes c x h t

  -- n bytes are still to be written
  puts : (n count : ℕ) (c : Cursor) (x : Context) → Within list c x → x.top ≡ c.top → c.at + 3 + count + n ≤ length list → count + n ≤ 255
      → Alike list (puts_on list n count c) x.log (writes count (take n (drop (c.at + 3 + count) list)) x)
  unfolding puts_on
  puts zero count c x h t r f = goes c x h t
  puts (suc n) count c x h t r f =
      let p : c.at + 3 + count < length list = omega arith in
      let k : suc n - 1 ≡ n = omega arith in
      let s : Sends list c.at count n = record { room = omega arith; few = omega arith } in
      rw (some n, drop-cons list (c.at + 3 + count) 0 p, k) (record { doing = (refl, h, s); top = t; log = refl })

  -- n bytes are still to be read
  gets : (n : ℕ) (q : Quota) (c : Cursor) (x : Context) → Within list c x → x.top ≡ c.top → c.count + n < 255
      → Alike list (gets_on list n q c) x.log (reads (suc c.count) q n x)
  unfolding gets_on
  gets zero q c x h t f = goes c x h t
  gets (suc n) q c x h t f =
      let k : suc n - 1 ≡ n = omega arith in
      let m : c.count % 255 + 1 ≡ suc c.count = one_more_lem c.count (omega arith) in
      let few : (z : ℕ) → suc c.count + follow (remain q n) z < 255 = λ z. rw (follow_remain q n z) (omega arith) in
      rw (some n, k, m) (record { doing = (refl, h, few); top = t; log = refl })

  first_quota : (k n z : ℕ) → n ≤ 255 → 0 + follow (quota_of k n) z < 255
  unfolding follow quota_of
  first_quota k n z h = omega arith

  -- the address was acknowledged
  carried : (c : Cursor) (x : Context) → Within list c x → x.top ≡ c.top → Alike list (carries_out list c) x.log (carries (order_of x.now.message) x)
  unfolding carries_out
  carried c x h t =
      let i = message_inv list c.at x.now.message h.next h.message in
      let k = i.kind in
      let a = i.asked in
      rw (k, a) (cases (is_write x.now.message.kind) refl)
    where
      k : ℕ
      k = x.now.message.kind

      n : ℕ
      n = x.now.message.asked

      cases : (b : Bool) → is_write k ≡ b
          → Alike list (cond b (puts_on list n 0 c) (carries_on (Gets 7 0 (quota_of k n)) 0 0 c)) x.log
          (carries (cond b (put x.now.message.sent) (get (quota_of k n))) x)
      cases true w =
          let i = message_inv list c.at x.now.message h.next h.message in
          let d : data_of k n ≡ n = sym (data_written k n true (sym w) refl) in
          let e : c.at + 3 + 0 ≡ c.at + 3 = omega arith in
          let s : take n (drop (c.at + 3 + 0) list) ≡ x.now.message.sent = rw e (rw d at i.sent) in
          let r = i.room in
          let f = i.next in
          let b = short_length k n i.right_length in
          subst (λ (ys : List ℕ). Alike list (puts_on list n 0 c) x.log (writes 0 ys x)) s (puts n 0 c x h t (omega arith) (omega arith))
      cases false w =
          let i = message_inv list c.at x.now.message h.next h.message in
          let b = short_length k n i.right_length in
          record { doing = (refl, h, λ z. first_quota k n z b); top = t; log = refl }

  -- all messages of the transaction are over, or left unsent
  pub record Passed (c : Cursor) (slot : ℕ) (later : List Transaction) : Type 0 where
    pub stands : Stands list c.at [] later
    pub slot_is : c.slot ≡ slot
    pub small : c.slot ≤ 257 * c.at

  all_passed : {p : ℕ} {ms : List Message} {later : List Transaction} → Stands list p ms later → (c : Cursor) → c.at ≡ p → c.slot ≤ 257 * p
      → Passed (passed_all list (length ms) c) (c.slot + slots_of_all ms) later
  unfolding passed_all slots_of_all
  all_passed (ended l) c e s = record { stands = rw e (ended l); slot_is = omega arith; small = rw e s }
  all_passed (begins l k n i st) c e s = record { stands = rw e (begins l k n i st); slot_is = omega arith; small = rw e s }
  all_passed (follows {p} {q} {m} {ms} i st) c e s =
      let f : (c.at + size_at list c.at) % wrap ≡ q = rw e (at_next p q m i) in
      let g : (c.slot + room_at list c.at) % wrap ≡ c.slot + slots_of m = rw e (slot_next p q m i c.slot s) in
      let k : (passed list c).slot ≤ 257 * q = rw g (small_next p q m i c.slot s) in
      let r = all_passed st (passed list c) f k in
      record { stands = r.stands; slot_is = r.slot_is ∙ ap (λ (y : ℕ). y + slots_of_all ms) g ∙ add_assoc c.slot (slots_of m) (slots_of_all ms); small = r.small }

  -- the next transaction, or the list's end
  opened : {at : ℕ} {later : List Transaction} → Stands list at [] later → (top : ℕ) (l : Log) → top ≤ 257 * at
      → Alike list (opens_at list at top) l (opens (batches top later) l)
  unfolding opens_at batches slots_of_all
  opened {at} (ended h) top l s = rw (le-ltb at (length list) h) (record { doing = refl; top = refl; log = refl })
  opened {at} (begins {q = q} {m = m} {ms = ms} {ts = ts} h c k i st) top l s =
      let z : at < length list = omega arith in
      let b = most_bytes_lem in
      let e : (at + 3) % wrap ≡ at + 3 = wraps (at + 3) (omega arith) in
      let f : (top + 1) % wrap ≡ top + 1 = wraps (top + 1) (omega arith) in
      let n : top + 1 + slots_of m + slots_of_all ms ≡ top + (1 + (slots_of m + slots_of_all ms)) = omega arith in
      let w : Here list (at + 3) (get_or list at 0 - 1) (top + 1) (record { message = m; slot = top + 1 }) (slotted (top + 1 + slots_of m) ms)
      (batches (top + (1 + (slots_of m + slots_of_all ms))) ts) =
      record {
        next = q;
        others = ms;
        later = ts;
        message = i;
        stands = st;
        todo_is = refl;
        after_is = ap (λ (y : ℕ). batches y ts) (sym n);
        left_is = k;
        slot_is = refl;
        small = omega arith;
      } in
      rw (lt-ltb at (length list) z, e, f) (record { doing = (refl, w); top = refl; log = refl })

  -- the same symbol is asked for
  asks_alike : (a : Act) (c : Cursor) (j : Job) (x : Context) → Doing list a c j x → ask_in list a c ≡ asks j x
  asks_alike (Opens w) c j x d = rw d.0
  asks_alike Reopens c j x d = rw d.0
  asks_alike Closes c j x d = rw d.0
  asks_alike Finishes c j x d = rw d
  asks_alike (Addresses k) c j x d =
      let h = d.1 in
      rw d.0 (ap (λ (y : ℕ). clocked (Sent (bit_at k y))) (address_same c.at h.next x.now.message h.message))
  asks_alike Hears c j x d = rw d.0
  asks_alike (Puts k) c j x d = rw d.0
  asks_alike Awaits c j x d = rw d.0
  asks_alike (Gets k y q) c j x d = rw d.0
  asks_alike (Answers y q) c j x d = rw d.0

  less : (n : ℕ) → suc n - 1 ≡ n
  less n = omega arith

  relog : {c : Cursor} {l k : Log} {t : State} → Alike list c l t → l ≡ k → Alike list c k t
  relog a e = record { doing = a.doing; top = a.top; log = a.log ∙ e }

  -- STOP has ended
  closed_alike : (c : Cursor) (l : Log) (x : Context) (h : Within list c x) → x.top ≡ c.top → x.log ≡ l
      → Alike list (opens_after list (passed_all list (suc (length h.others)) c)) (note closed c.top l) (opens x.later (note closed x.top x.log))
  unfolding slots_of_all
  closed_alike c l x h t e =
      let p : Cursor = passed_all list (suc (length h.others)) c in
      let r = all_passed (follows h.message h.stands) c refl h.small in
      let g : batches p.slot h.later ≡ x.later =
      ap (λ (y : ℕ). batches y h.later) (r.slot_is ∙ sym (add_assoc c.slot (slots_of x.now.message) (slots_of_all h.others))) ∙ sym h.after_is in
      let o = opened r.stands p.slot (note closed x.top x.log) r.small in
      relog (subst (λ (b : List Batch). Alike list (opens_after list p) (note closed x.top x.log) (opens b (note closed x.top x.log))) g o) (rw (t, e))

  -- the symbol ends alike
  steps_alike : (a : Act) (v : Bool) (c : Cursor) (l : Log) (j : Job) (x : Context) → Doing list a c j x → x.top ≡ c.top → x.log ≡ l
      → Alike list (step_in list a v c) (note_in list a v c l) (step j v x)
  steps_alike (Opens w) v c l j x d t e = rw d.0 (record { doing = (refl, d.1); top = t; log = e })
  steps_alike Reopens v c l j x d t e = rw d.0 (record { doing = (refl, d.1); top = t; log = e })
  steps_alike Closes v c l j x d t e =
      let h = d.1 in
      let n : c.left + 1 ≡ suc (length h.others) = let k = h.left_is in omega arith in
      rw (d.0, n) (closed_alike c l x h t e)
  steps_alike Finishes v c l j x d t e = rw d (record { doing = refl; top = t; log = e })
  steps_alike (Addresses zero) v c l j x d t e = rw d.0 (record { doing = (refl, d.1); top = t; log = e })
  steps_alike (Addresses (suc k)) v c l j x d t e = rw (d.0, some k, less k) (record { doing = (refl, d.1); top = t; log = e })
  steps_alike Hears true c l j x d t e =
      let h = d.1 in
      let a = address_same c.at h.next x.now.message h.message in
      let s = h.slot_is in
      rw d.0 (relog (refuses c (marked (heard (address_byte x.now.message) false) x) h t) (rw (a, s, e)))
  steps_alike Hears false c l j x d t e =
      let h = d.1 in
      let a = address_same c.at h.next x.now.message h.message in
      let s = h.slot_is in
      rw d.0 (relog (carried c (marked (heard (address_byte x.now.message) true) x) h t) (rw (a, s, e)))
  steps_alike (Puts zero) v c l j x d t e = rw d.0 (record { doing = (refl, d.1, d.2); top = t; log = e })
  steps_alike (Puts (suc k)) v c l j x d t e = rw (d.0, some k, less k) (record { doing = (refl, d.1, d.2); top = t; log = e })
  steps_alike Awaits true c l j x d t e =
      let h = d.1 in
      let s = h.slot_is in
      let f : c.count % 255 ≡ c.count = mod-eq_of_lt (let w = d.2.few in omega arith) in
      rw d.0 (relog (refuses c (marked (written c.count (data_at list c) false) x) h t) (rw (f, s, e)))
  steps_alike Awaits false c l j x d t e =
      let h = d.1 in
      let s = h.slot_is in
      let w = d.2.few in
      let r = d.2.room in
      let f : c.count % 255 ≡ c.count = mod-eq_of_lt (omega arith) in
      let o : c.count % 255 + 1 ≡ suc c.count = one_more_lem c.count (omega arith) in
      let g : c.at + 3 + suc c.count ≡ suc (c.at + 3 + c.count) = omega arith in
      let y : Context = marked (written c.count (data_at list c) true) x in
      let p : Alike list (puts_on list c.more (suc c.count) c) y.log (writes (suc c.count) (take c.more (drop (c.at + 3 + suc c.count) list)) y) =
      puts c.more (suc c.count) c y h t (omega arith) (omega arith) in
      rw (d.0, o) (relog (rw g at p) (rw (f, s, e)))
  steps_alike (Gets zero y q) v c l j x d t e = rw d.0 (record { doing = (refl, d.1, d.2); top = t; log = e })
  steps_alike (Gets (suc k) y q) v c l j x d t e = rw (d.0, some k, less k) (record { doing = (refl, d.1, d.2); top = t; log = e })
  steps_alike (Answers y q) v c l j x d t e =
      let h = d.1 in
      let s = h.slot_is in
      let w = d.2 y in
      let f : c.count % 255 ≡ c.count = mod-eq_of_lt (omega arith) in
      rw d.0 (relog (gets (follow q y) q c (marked (read_mark q c.count y) x) h t w) (rw (f, s, e)))

  -- the two plans are alike in every state that they reach together
  abbrev pub Same : Spot → State → Type 0
  Same s t = Alike list s.cursor s.log t

  pub asks_same : (s : Spot) (t : State) → Same s t → (places list).ask s ≡ orders.ask t
  unfolding ask_of
  asks_same s t a = asks_alike s.cursor.act s.cursor t.job t.context a.doing

  pub nexts_same : (s : Spot) (t : State) (v : Bool) → Same s t → Same ((places list).next s v) (orders.next t v)
  unfolding step_of note_of
  nexts_same s t v a = steps_alike s.cursor.act v s.cursor s.log t.job t.context a.doing a.top a.log

  pub fails_same : (s : Spot) (t : State) (f : Fault) → Same s t → Same ((places list).failed s f) (orders.failed t f)
  fails_same s t f a = record { doing = refl; top = refl; log = ap₂ (λ (n : ℕ) (l : Log). note (broke (outcome_of f)) n l) a.top a.log }

  -- at the list's start
  pub starts_same : (ts : List Transaction) → Stands list 0 [] ts → (l : Log) → Same (record { cursor = opens_at list 0 0; log = l }) (opens (batches 0 ts) l)
  starts_same ts st l = opened st 0 l (omega arith)
