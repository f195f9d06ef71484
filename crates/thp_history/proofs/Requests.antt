-- Legal histories of the same requests are equal but for the blocks.
use Rattle.std.proofs.Common.{◌≡◌, ℕ, [], ◌∷◌, ◌++◌, refl, ap, sym, ◌∙◌, subst, append_assoc}
use Rattle.thp_history.specs.Prelude.{Event, Shape, with_block, event_with, without_blocks, SameButBlocks, History, by, IsLegal, Fits, FitsBy, asked, requests}
use Rattle.thp_history.proofs.LeastBlocks.{without_blocks_push}
use Rattle.thp_history.proofs.LegalSteps.{legal_at}
use Rattle.thp_history.proofs.ListPlaces.{append_none}
use Rattle.thp_history.proofs.OneAnswer.{one_answer}

-- one more request of both
one_more : (shape : Shape) (a b : History) (e f : Event) → SameButBlocks a b → e.caller ≡ f.caller → asked e.what ≡ asked f.what → Fits shape a e → Fits shape b f → SameButBlocks (a ++ e ∷ []) (b ++ f ∷ [])
one_more shape a b e f s who what x y =
    let P : ℕ → Type 0 = λ c. FitsBy shape b (b ++ by c f.what ∷ []) c f.what in
    let one : with_block 0 e.what ≡ with_block 0 f.what = one_answer shape a b e.caller e.what f.what s what x (subst P (sym who) y) in
    without_blocks_push a e ∙ ap (λ xs. xs ++ event_with 0 e ∷ []) s ∙ ap (λ c. without_blocks b ++ by c (with_block 0 e.what) ∷ []) who
    ∙ ap (λ w. without_blocks b ++ by f.caller w ∷ []) one ∙ sym (without_blocks_push b f)

-- the same of histories that go on
run : (shape : Shape) (a b h k : History) → SameButBlocks a b → IsLegal shape (a ++ h) → IsLegal shape (b ++ k) → requests h ≡ requests k → SameButBlocks (a ++ h) (b ++ k)
unfolding requests
run shape a b [] [] s l m r = ap without_blocks (append_none a) ∙ s ∙ sym (ap without_blocks (append_none b))
run shape a b [] (f ∷ k) s l m r = absurd (cc)
run shape a b (e ∷ h) [] s l m r = absurd (cc)
run shape a b (e ∷ h) (f ∷ k) s l m r =
    let first : ◌≡◌ {A = Event} (by e.caller (asked e.what)) (by f.caller (asked f.what)) = cc in
    let others : requests h ≡ requests k = cc in
    let L : History → Type 0 = λ x. IsLegal shape x in
    ap without_blocks (sym (append_assoc a (e ∷ []) h))
    ∙ run shape (a ++ e ∷ []) (b ++ f ∷ []) h k
    (one_more shape a b e f s (ap (λ (x : Event). x.caller) first) (ap (λ (x : Event). x.what) first) (legal_at shape a e h l) (legal_at shape b f k m))
    (subst L (sym (append_assoc a (e ∷ []) h)) l) (subst L (sym (append_assoc b (f ∷ []) k)) m) others
    ∙ ap without_blocks (append_assoc b (f ∷ []) k)

-- legal histories of the same requests are equal but for their blocks
pub decided : (shape : Shape) (h k : History) → IsLegal shape h → IsLegal shape k → requests h ≡ requests k → SameButBlocks h k
decided shape h k l m r = run shape [] [] h k refl l m r
