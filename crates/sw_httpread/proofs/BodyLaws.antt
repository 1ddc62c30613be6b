-- However bytes are cut into pieces, one body comes of them.
use Rattle.std.proofs.Common.{◌≡◌, ℕ, List, ◌++◌, length, Option, None, refl, sym, ap, ◌∙◌, subst, arith, append_assoc, length-append}
use Rattle.sw_httpread.specs.Chunks.{Standing, TheLast, OutOfForm, TooLong, Undecided}
use Rattle.sw_httpread.specs.Bodies.{Decides, LeavesOpen, IsBodyNext, IsBodyAnswer}
use Rattle.sw_httpread.specs.declared.body.Framing.{Framing}
use Rattle.sw_httpread.specs.declared.body.Framing.TheVariants as framing
use Rattle.sw_httpread.specs.declared.body.BodyNext.{BodyNext}
use Rattle.sw_httpread.specs.declared.body.BodyNext.TheVariants.{Body, Cut, BadChunk, TooLarge, ReadFault, NoMemory}
use Rattle.sw_httpread.proofs.Chunks.{Found, found_one, begins_more}
use Rattle.sw_httpread.proofs.Standings.{cut, stands_more}

-- ---- more bytes

pub body_more : (how : Framing) (had more unused : List ℕ) (next : BodyNext) → Decides how had next unused → Decides how (had ++ more) next (unused ++ more)
body_more framing.None had more unused (Body body) d = (d.0, ap (λ (t : List ℕ). t ++ more) d.1)
body_more framing.None had more unused Cut d = absurd d
body_more framing.None had more unused BadChunk d = absurd d
body_more framing.None had more unused TooLarge d = absurd d
body_more framing.None had more unused ReadFault d = absurd d
body_more framing.None had more unused NoMemory d = absurd d
body_more (framing.Length n) had more unused (Body body) d = (d.0, d.1, ap (λ (t : List ℕ). t ++ more) d.2 ∙ append_assoc body unused more)
body_more (framing.Length n) had more unused TooLarge d = (d.0, ap (λ (t : List ℕ). t ++ more) d.1)
body_more (framing.Length n) had more unused Cut d = absurd d
body_more (framing.Length n) had more unused BadChunk d = absurd d
body_more (framing.Length n) had more unused ReadFault d = absurd d
body_more (framing.Length n) had more unused NoMemory d = absurd d
body_more framing.Chunked had more unused (Body body) d =
    (d.0, d.1 ++ more, begins_more had d.1 more d.0 d.2, d.3, stands_more more (length body) d.1 (TheLast unused) (λ e. absurd (cc)) d.4)
body_more framing.Chunked had more unused BadChunk d = (d.0, begins_more had unused more d.0 d.1, stands_more more _ unused OutOfForm (λ e. absurd (cc)) d.2)
body_more framing.Chunked had more unused TooLarge d = (d.0, begins_more had unused more d.0 d.1, stands_more more _ unused TooLong (λ e. absurd (cc)) d.2)
body_more framing.Chunked had more unused Cut d = absurd d
body_more framing.Chunked had more unused ReadFault d = absurd d
body_more framing.Chunked had more unused NoMemory d = absurd d

-- ---- one answer

-- what an answer tells of a chunked body
abbrev Tells : BodyNext → List ℕ → List ℕ → List ℕ → Standing → Type 0
Tells (Body b) unused body rest what = (b ≡ body) × (what ≡ TheLast unused)
Tells BadChunk unused body rest what = (unused ≡ rest) × (what ≡ OutOfForm)
Tells TooLarge unused body rest what = (unused ≡ rest) × (what ≡ TooLong)
Tells Cut unused body rest what = (unused ≡ rest) × (what ≡ Undecided)
Tells ReadFault unused body rest what = ⊥
Tells NoMemory unused body rest what = ⊥

record Told (had : List ℕ) (next : BodyNext) (unused : List ℕ) : Type 0 where
  pub body : List ℕ
  pub rest : List ℕ
  pub what : Standing
  pub found : Found had body rest what
  pub tells : Tells next unused body rest what

told : (had : List ℕ) (left : Option (List ℕ)) (next : BodyNext) (unused : List ℕ) → IsBodyAnswer next → IsBodyNext framing.Chunked had left next unused → Told had next unused
told had left (Body body) unused a n = record { body = body; rest = n.1; what = TheLast unused; found = record { chunks = n.0; begins = n.2; data_of = n.3; stands = n.4; other = tt }; tells = (refl, refl) }
told had left BadChunk unused a n = record { body = _; rest = unused; what = OutOfForm; found = record { chunks = n.0; begins = n.1; data_of = refl; stands = n.2; other = tt }; tells = (refl, refl) }
told had left TooLarge unused a n = record { body = _; rest = unused; what = TooLong; found = record { chunks = n.0; begins = n.1; data_of = refl; stands = n.2; other = tt }; tells = (refl, refl) }
told had left Cut unused a n = record { body = _; rest = unused; what = Undecided; found = record { chunks = n.1.0; begins = n.1.1; data_of = refl; stands = n.1.2; other = tt }; tells = (refl, refl) }
told had left ReadFault unused a n = absurd a
told had left NoMemory unused a n = absurd a

last_same : (what : Standing) (x y : List ℕ) → what ≡ TheLast x → what ≡ TheLast y → x ≡ y
last_same what x y p q = cc

tells_one : (next other : BodyNext) (x y body rest : List ℕ) (what : Standing) → Tells next x body rest what → Tells other y body rest what → (next ≡ other) × (x ≡ y)
tells_one (Body b) (Body c) x y body rest what p q = (ap (λ (t : List ℕ). Body t) (p.0 ∙ sym q.0), last_same what x y p.1 q.1)
tells_one (Body b) BadChunk x y body rest what p q = absurd (cc (p.1, q.1))
tells_one (Body b) TooLarge x y body rest what p q = absurd (cc (p.1, q.1))
tells_one (Body b) Cut x y body rest what p q = absurd (cc (p.1, q.1))
tells_one BadChunk (Body c) x y body rest what p q = absurd (cc (p.1, q.1))
tells_one BadChunk BadChunk x y body rest what p q = (refl, p.0 ∙ sym q.0)
tells_one BadChunk TooLarge x y body rest what p q = absurd (cc (p.1, q.1))
tells_one BadChunk Cut x y body rest what p q = absurd (cc (p.1, q.1))
tells_one TooLarge (Body c) x y body rest what p q = absurd (cc (p.1, q.1))
tells_one TooLarge BadChunk x y body rest what p q = absurd (cc (p.1, q.1))
tells_one TooLarge TooLarge x y body rest what p q = (refl, p.0 ∙ sym q.0)
tells_one TooLarge Cut x y body rest what p q = absurd (cc (p.1, q.1))
tells_one Cut (Body c) x y body rest what p q = absurd (cc (p.1, q.1))
tells_one Cut BadChunk x y body rest what p q = absurd (cc (p.1, q.1))
tells_one Cut TooLarge x y body rest what p q = absurd (cc (p.1, q.1))
tells_one Cut Cut x y body rest what p q = (refl, p.0 ∙ sym q.0)
tells_one ReadFault other x y body rest what p q = absurd p
tells_one NoMemory other x y body rest what p q = absurd p
tells_one (Body b) ReadFault x y body rest what p q = absurd q
tells_one (Body b) NoMemory x y body rest what p q = absurd q
tells_one BadChunk ReadFault x y body rest what p q = absurd q
tells_one BadChunk NoMemory x y body rest what p q = absurd q
tells_one TooLarge ReadFault x y body rest what p q = absurd q
tells_one TooLarge NoMemory x y body rest what p q = absurd q
tells_one Cut ReadFault x y body rest what p q = absurd q
tells_one Cut NoMemory x y body rest what p q = absurd q

chunked_one : (all x y : List ℕ) (left left' : Option (List ℕ)) (next other : BodyNext) → IsBodyAnswer next → IsBodyAnswer other
    → IsBodyNext framing.Chunked all left next x → IsBodyNext framing.Chunked all left' other y → (next ≡ other) × (x ≡ y)
chunked_one all x y left left' next other a b n m =
    let t = told all left next x a n in
    let u = told all left' other y b m in
    let s = found_one all t.body u.body t.rest u.rest t.what u.what t.found u.found in
    let same : Tells next x u.body u.rest u.what =
    subst (λ (w : Standing). Tells next x u.body u.rest w) s.2 (subst (λ (r : List ℕ). Tells next x u.body r t.what) s.1 (subst (λ (d : List ℕ). Tells next x d t.rest t.what) s.0 t.tells)) in
    tells_one next other x y u.body u.rest u.what same u.tells

sized_one : (n : ℕ) (all x y : List ℕ) (left left' : Option (List ℕ)) (next other : BodyNext) → IsBodyAnswer next → IsBodyAnswer other
    → IsBodyNext (framing.Length n) all left next x → IsBodyNext (framing.Length n) all left' other y → (next ≡ other) × (x ≡ y)
sized_one n all x y left left' (Body b) (Body c) p q d e =
    let same = cut b c x y (d.1 ∙ sym e.1) (sym d.2 ∙ e.2) in
    (ap (λ (t : List ℕ). Body t) same.0, same.1)
sized_one n all x y left left' (Body b) TooLarge p q d e = absurd (omega (arith, d.0, e.0))
sized_one n all x y left left' (Body b) Cut p q d e = absurd (omega (arith, d.1, ap length d.2, length-append b x, e.1.1))
sized_one n all x y left left' TooLarge (Body c) p q d e = absurd (omega (arith, e.0, d.0))
sized_one n all x y left left' TooLarge TooLarge p q d e = (refl, d.1 ∙ sym e.1)
sized_one n all x y left left' TooLarge Cut p q d e = absurd (omega (arith, d.0, e.1.0))
sized_one n all x y left left' Cut (Body c) p q d e = absurd (omega (arith, e.1, ap length e.2, length-append c y, d.1.1))
sized_one n all x y left left' Cut TooLarge p q d e = absurd (omega (arith, e.0, d.1.0))
sized_one n all x y left left' Cut Cut p q d e = (refl, d.1.2 ∙ sym e.1.2)
sized_one n all x y left left' BadChunk other p q d e = absurd d
sized_one n all x y left left' ReadFault other p q d e = absurd p
sized_one n all x y left left' NoMemory other p q d e = absurd p
sized_one n all x y left left' (Body b) BadChunk p q d e = absurd e
sized_one n all x y left left' (Body b) ReadFault p q d e = absurd q
sized_one n all x y left left' (Body b) NoMemory p q d e = absurd q
sized_one n all x y left left' TooLarge BadChunk p q d e = absurd e
sized_one n all x y left left' TooLarge ReadFault p q d e = absurd q
sized_one n all x y left left' TooLarge NoMemory p q d e = absurd q
sized_one n all x y left left' Cut BadChunk p q d e = absurd e
sized_one n all x y left left' Cut ReadFault p q d e = absurd q
sized_one n all x y left left' Cut NoMemory p q d e = absurd q

none_one : (all x y : List ℕ) (left left' : Option (List ℕ)) (next other : BodyNext) → IsBodyAnswer next → IsBodyAnswer other
    → IsBodyNext framing.None all left next x → IsBodyNext framing.None all left' other y → (next ≡ other) × (x ≡ y)
none_one all x y left left' (Body b) (Body c) p q d e = (ap (λ (t : List ℕ). Body t) (d.0 ∙ sym e.0), d.1 ∙ sym e.1)
none_one all x y left left' (Body b) BadChunk p q d e = absurd e
none_one all x y left left' (Body b) TooLarge p q d e = absurd e
none_one all x y left left' (Body b) Cut p q d e = absurd e.1
none_one all x y left left' (Body b) ReadFault p q d e = absurd q
none_one all x y left left' (Body b) NoMemory p q d e = absurd q
none_one all x y left left' BadChunk other p q d e = absurd d
none_one all x y left left' TooLarge other p q d e = absurd d
none_one all x y left left' Cut other p q d e = absurd d.1
none_one all x y left left' ReadFault other p q d e = absurd p
none_one all x y left left' NoMemory other p q d e = absurd p

pub body_one : (how : Framing) (all x y : List ℕ) (left left' : Option (List ℕ)) (next other : BodyNext) → IsBodyAnswer next → IsBodyAnswer other
    → IsBodyNext how all left next x → IsBodyNext how all left' other y → (next ≡ other) × (x ≡ y)
body_one framing.None = none_one
body_one (framing.Length n) = sized_one n
body_one framing.Chunked = chunked_one

-- ---- nothing is decided while it is open

pub body_undecided : (how : Framing) (had unused rest : List ℕ) (next : BodyNext) → LeavesOpen how had unused → Decides how had next rest → ⊥
body_undecided how had unused rest (Body body) o d = absurd (cc ((body_one how had unused rest None None Cut (Body body) tt tt (tt, o) d).0))
body_undecided how had unused rest BadChunk o d = absurd (cc ((body_one how had unused rest None None Cut BadChunk tt tt (tt, o) d).0))
body_undecided how had unused rest TooLarge o d = absurd (cc ((body_one how had unused rest None None Cut TooLarge tt tt (tt, o) d).0))
body_undecided framing.None had unused rest Cut o d = absurd d
body_undecided (framing.Length n) had unused rest Cut o d = absurd d
body_undecided framing.Chunked had unused rest Cut o d = absurd d
body_undecided framing.None had unused rest ReadFault o d = absurd d
body_undecided (framing.Length n) had unused rest ReadFault o d = absurd d
body_undecided framing.Chunked had unused rest ReadFault o d = absurd d
body_undecided framing.None had unused rest NoMemory o d = absurd d
body_undecided (framing.Length n) had unused rest NoMemory o d = absurd d
body_undecided framing.Chunked had unused rest NoMemory o d = absurd d
