-- Each call of an entry, and its report.
use Rattle.std.proofs.Common.{◌≡◌, ap, ◌∙◌, true, List, ◌++◌, ℕ, ◌+◌, ◌-◌, ◌/◌, ◌≤◌, min, ◌<◌, arith, leb, length, take, drop, length-drop, length-take-le, rules, eq-eqb, ne_eqb, lt-ltb, leb-true, leb-false}
use Rattle.wire.specs.Words.{word_at, long_at}
use Rattle.wire.specs.declared.Order.TheVariants.{Little}
use Rattle.wire.proofs.Words.{Octets, rest_at, cut_at}
use Rattle.tables.proofs.Words.{bytes_drop}
use Rattle.wire.proofs.Tests.{by_test}
use Rattle.rules.specs.Calls.{connect}
use Rattle.rules.specs.Places.{plain_words, connected_words, owned_words, taken_words, gone_words, ticked_words}
use Rattle.rules.specs.declared.Connected.{Connected}
use Rattle.rules.specs.declared.Owned.{Owned}
use Rattle.rules.specs.declared.Taken.{Taken}
use Rattle.rules.specs.declared.Gone.{Gone}
use Rattle.rules.specs.declared.Ticked.{Ticked}
use Rattle.memory.specs.Calls.{Did, MemoryStep, start_on, connect_on, own_on, release_on, piece_on, disconnect_on, tick_on}
use Rattle.book.specs.Lists.{plain, connected, owned, taken, gone, ticked, connects, ticks}
use Rattle.book.specs.Lists.{Ran, ran_start, ran_connect, ran_own, ran_release, ran_piece, ran_leave, ran_tick}
use Rattle.places.specs.declared.Report.{Report}
use Rattle.places.specs.Places.{place_length, place_of, report_words, Shows}
use Rattle.calls.specs.declared.Gids.{Gids}
use Rattle.calls.specs.declared.Kind.{Kind}
use Rattle.calls.specs.declared.Kind.TheVariants as kind
use Rattle.calls.specs.declared.Entry.{Entry}
use Rattle.calls.specs.Script.{argument_of, well_sized, words, gids_of, peer_call, call_of}
use Rattle.calls.specs.Steps.{kind_word, FirstEntry, Reported, Stepped, GidsIn}
use Rattle.calls.proofs.Words.{words_length, words_below}
use Rattle.calls.proofs.Entries.{connect_long, own_long, release_long, piece_long, leave_long, tick_words}

-- ---- connect: more gids than sixteen are as many as seventeen

many : (image m : List ℕ) (uid : ℕ) (g h : List ℕ) → 16 < length g → 16 < length h → connect_on image m uid g ≡ connect_on image m uid h
unfolding connect_on connect
many image m uid g h p q = rw (lt-ltb 16 (length g) p, lt-ltb 16 (length h) q)

enough : (image m : List ℕ) (uid n : ℕ) (s : List ℕ) → connect_on image m uid (words (min n 17) s) ≡ connect_on image m uid (words n s)
enough image m uid n s =
    by_test (leb n 17)
    (λ q. let l = leb-true n 17 q in let e : min n 17 ≡ n = omega arith in rw e)
    (λ q. let l = leb-false n 17 q in
    many image m uid (words (min n 17) s) (words n s) (omega (arith, words_length (min n 17) s)) (omega (arith, words_length n s)))

pub connect_reported : (image m a e : List ℕ) (uid : ℕ) (g : Gids) (c : Connected) → Octets a → uid ≡ word_at Little a 0 → uid < 4294967296 → GidsIn a g
    → {l : List ℕ} → l ≡ take g.count g.list → Did (connect_on image m uid l) c e
    → (r : Report) → Shows (connected_words c) r
    → Reported (connects image (word_at Little a 0) (gids_of a)) m r e
connect_reported image m a e uid g c f u b h {l} v d r s =
    let n = (length a - 4) / 4 in
    let x : connect_on image m uid l ≡ connect_on image m (word_at Little a 0) (gids_of a)
    = ap (connect_on image m uid) (v ∙ h.are ∙ ap (λ (k : ℕ). words k (drop 4 a)) h.count)
    ∙ enough image m uid n (drop 4 a)
    ∙ ap (λ (k : ℕ). connect_on image m k (gids_of a)) u in
    record {
      answer = connected c;
      ran =
          ran_connect {uid = word_at Little a 0} (rw (← u) b) (words_below n (drop 4 a) (bytes_drop 4 a (λ j. (f j).fits)))
          (record { result = d.result ∙ ap (λ (o : MemoryStep Connected). o.result) x; memory = d.memory ∙ ap (λ (o : MemoryStep Connected). o.memory) x });
      shows = s;
    }

pub few_gids : (a : List ℕ) (g : Gids) → GidsIn a g → g.count ≤ 17
few_gids a g h = h.few

pub ruleset connecting = (few_gids, connect_reported, rules)

-- ---- a tick

pub tick_reported : (m a e : List ℕ) (k limit : ℕ) → k ≡ long_at a 0 → k < 18446744073709551616 → limit ≡ long_at a 8
    → (t : Ticked) → Did (tick_on m k limit) t e
    → (r : Report) → Shows (ticked_words t) r
    → Reported (ticks (long_at a 0) (long_at a 8)) m r e
tick_reported m a e k limit p h q t d r s = rw (← p, ← q) (record { answer = ticked t; ran = ran_tick h d; shows = s })

pub ruleset ticking = (tick_reported, rules)

-- ---- any call

module _ (image m a e : List ℕ) (k : Kind) (r : Report) where
  pub start_called : k ≡ kind.Start → (x : ℕ) → Did (start_on m) x e → Shows (plain_words x) r → Reported (call_of image (kind_word k) a) m r e
  unfolding call_of
  start_called q x d s = rw q (record { answer = plain x; ran = ran_start d; shows = s })

  pub connect_called : k ≡ kind.Connect → Reported (connects image (word_at Little a 0) (gids_of a)) m r e → Reported (call_of image (kind_word k) a) m r e
  unfolding call_of
  connect_called q s = rw q s

  pub tick_called : k ≡ kind.Tick → Reported (ticks (long_at a 0) (long_at a 8)) m r e → Reported (call_of image (kind_word k) a) m r e
  unfolding call_of
  tick_called q s = rw q s

  module _ (n : ℕ) (p : n ≡ word_at Little a 0) where
    pub leave_called : k ≡ kind.Disconnect → (g : Gone) → Did (disconnect_on m n) g e → Shows (gone_words g) r → Reported (call_of image (kind_word k) a) m r e
    unfolding call_of
    leave_called q g d s = rw (q, ← p) (record { answer = gone g; ran = ran_leave d; shows = s })

    pub own_called : k ≡ kind.Own → (o : Owned) → Did (own_on image m n (take (length a - 4) (drop 4 a))) o e → Shows (owned_words o) r
        → Reported (call_of image (kind_word k) a) m r e
    unfolding call_of peer_call
    own_called q o d s = rw (q, ← p) (record { answer = owned o; ran = ran_own (rw (rest_at 4 a) at d); shows = s })

    pub release_called : k ≡ kind.Release → (x : ℕ) → Did (release_on m n (take (length a - 4) (drop 4 a))) x e → Shows (plain_words x) r
        → Reported (call_of image (kind_word k) a) m r e
    unfolding call_of peer_call
    release_called q x d s = rw (q, ← p) (record { answer = plain x; ran = ran_release (rw (rest_at 4 a) at d); shows = s })

    pub piece_called : k ≡ kind.Piece → Octets a → (x : Taken) → Did (piece_on image m n (take (length a - 4) (drop 4 a))) x e → Shows (taken_words x) r
        → Reported (call_of image (kind_word k) a) m r e
    unfolding call_of peer_call
    piece_called q f x d s =
        rw (q, ← p) (record { answer = taken x; ran = ran_piece (bytes_drop 4 a (λ j. (f j).fits)) (rw (rest_at 4 a) at d); shows = s })

pub ruleset calling =
    (connect_long, own_long, release_long, piece_long, leave_long, tick_words, start_called, connect_called, tick_called, leave_called, own_called, release_called, piece_called, rules)

-- ---- the entry in front

module _ (s : List ℕ) (x : Entry) (f : FirstEntry s x) where
  -- its argument, as the code cuts it
  cut_is : take (8 + x.argument - 8) (drop 8 s) ≡ argument_of s
  cut_is = cut_at 8 x.argument s ∙ rw f.argument

  pub step_sized : well_sized (kind_word x.kind) (length (take (8 + x.argument - 8) (drop 8 s))) ≡ true
  step_sized =
      let i : 8 + x.argument ≤ length s = f.inside in
      let e : length (take (8 + x.argument - 8) (drop 8 s)) ≡ x.argument
      = ap length (cut_at 8 x.argument s) ∙ length-take-le x.argument (drop 8 s) (omega (arith, length-drop 8 s)) in
      rw e f.sized

  pub step_done : (image m room e y : List ℕ) (r : Report) → Reported (call_of image (kind_word x.kind) (take (8 + x.argument - 8) (drop 8 s))) m r e
      → y ≡ place_of (report_words r) ++ drop place_length room
      → Stepped image s m room e y
  step_done image m room e y r o w =
      let q : Ran m e (call_of image (kind_word x.kind) (take (8 + x.argument - 8) (drop 8 s))) o.answer = o.ran in
      record { answer = o.answer; ran = rw (cut_is, f.kind) at q; written = w ∙ ap (λ (l : List ℕ). l ++ drop place_length room) o.shows.are }

pub ruleset stepping = (step_sized, step_done, rules)
