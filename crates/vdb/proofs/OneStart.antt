-- A DDL over lanes defines one catalog, and its start has one refusal or none.
use Rattle.std.proofs.Common.{◌≡◌, inl, inr, ℕ, List, [], ◌∷◌, ◌++◌, Option, Some, None, Ok, Err, IfSome, sym, ap, ◌∙◌, subst, arith}
use Rattle.std.specs.Prelude.{All}
use Rattle.std.proofs.lemmas.List.Elements.{All-head, All-tail}
use Rattle.sql_reader.specs.Trees.{source_of}
use Rattle.vdb_ddl.specs.declared.tree.Item.{Item}
use Rattle.vdb_ddl.specs.Items.{IsDdl, IsRefused, at_fault, at_limit}
use Rattle.vdb_ddl.proofs.Turns.{items_alone, fault_alone, never_both}
use Rattle.vdb_model.specs.declared.reply.DeployFault.{DeployFault}
use Rattle.vdb_model.specs.declared.reply.DeployFault.TheVariants as deploy
use Rattle.vdb_model.specs.declared.table.TableDef.{TableDef}
use Rattle.vdb_model.specs.Defined.{Defined}
use Rattle.metadata.specs.declared.connection.ConnInfo.{ConnInfo}
use Rattle.metadata.specs.Deployed.{deployed}
use Rattle.metadata.specs.Views.{Walk}
use Rattle.resource.specs.declared.lane.Lane.{Lane}
use Rattle.resource.specs.Reading.{Reading}
use Rattle.resource.specs.Told.{Told}
use Rattle.vdb_session.specs.declared.parts.Parts.{Parts}
use Rattle.vdb_session.specs.Shown.{tables_for}
use Rattle.vdb_session.specs.Starting.{cell_fault, Deploys, NoItems, NoDeployment, ReadsAs, IsFirst, IsStartRefusal}
use Rattle.vdb_session.proofs.ServedLanes.{head_same, tail_same}
use Rattle.vdb.specs.Causes.{TellsContents, Refused}

-- a text is the items of one list
one_list : (text : List ℕ) (items others : List Item) → IsDdl text items → IsDdl text others → items ≡ others
one_list text items others a b = items_alone (source_of text) items others a.all b.all

-- a text is refused at one place
one_place : (text : List ℕ) (at other : ℕ) → IsRefused text at → IsRefused text other → at ≡ other
one_place text at other (at_fault f w) (at_fault g v) = fault_alone (source_of text) at other f g
one_place text at other (at_fault f w) (at_limit long none e) = let k = none at f in omega (arith, k, w, e)
one_place text at other (at_limit long none e) (at_fault g v) = let k = none other g in omega (arith, k, v, e)
one_place text at other (at_limit long none e) (at_limit long' none' e') = e ∙ sym e'

-- and where it is items it isn't refused
not_both : (text : List ℕ) (items : List Item) (at : ℕ) → IsDdl text items → IsRefused text at → ⊥
not_both text items at a (at_fault f w) = never_both (source_of text) items at a.all f
not_both text items at a (at_limit long none e) = omega (arith, long, a.short)

module _ (walk : Walk) (conns : List ConnInfo) (items others : List Item) (e : items ≡ others) where
  -- the same items deploy alike
  alike : deployed walk conns items ≡ deployed walk conns others
  alike = ap (deployed walk conns) e

  ok_same : (c d : Defined) → deployed walk conns items ≡ Ok c → deployed walk conns others ≡ Ok d → c ≡ d
  ok_same c d p q = let h = sym p ∙ alike ∙ q in cc

  err_same : (f g : DeployFault) → deployed walk conns items ≡ Err f → deployed walk conns others ≡ Err g → f ≡ g
  err_same f g p q = let h = sym p ∙ alike ∙ q in cc

  ok_or_err : (c : Defined) (f : DeployFault) → deployed walk conns items ≡ Ok c → deployed walk conns others ≡ Err f → ⊥
  ok_or_err c f p q = let h = sym p ∙ alike ∙ q in cc

module _ {S : Type 0} (told : S → Told) (ddl : List ℕ) (lanes : List (Lane S)) where
  -- a DDL over lanes defines one catalog
  pub one_catalog : (c d : Defined) → Deploys told ddl lanes c → Deploys told ddl lanes d → c ≡ d
  one_catalog c d p q = ok_same _ _ p.items q.items (one_list ddl p.items q.items p.reads q.reads) c d p.deploys q.deploys

  -- what defines a catalog isn't refused for its items
  has_items : (c : Defined) (f : DeployFault) → Deploys told ddl lanes c → NoItems ddl f → ⊥
  has_items c f p q = not_both ddl p.items q.at p.reads q.refused

  -- nor for its deployment
  has_deployment : (c : Defined) (f : DeployFault) → Deploys told ddl lanes c → NoDeployment told ddl lanes f → ⊥
  has_deployment c f p q = ok_or_err _ _ p.items q.items (one_list ddl p.items q.items p.reads q.reads) c f p.deploys q.refused

  one_no_deployment : (f g : DeployFault) → NoDeployment told ddl lanes f → NoDeployment told ddl lanes g → f ≡ g
  one_no_deployment f g p q = err_same _ _ p.items q.items (one_list ddl p.items q.items p.reads q.reads) f g p.refused q.refused

-- told contents read in one way
read_once : (server : List ℕ) (defs : List TableDef) (a b : Option DeployFault) (o : Option (List TableDef → Reading)) (reads : List TableDef → Reading) → o ≡ Some reads
    → IfSome o (λ reads. cell_fault server defs (reads defs) ≡ a) → IfSome o (λ reads. cell_fault server defs (reads defs) ≡ b) → a ≡ b
read_once server defs a b None reads e p q = (let h : None ≡ Some reads = e in cc)
read_once server defs a b (Some reads') reads e p q = sym p ∙ q

-- what holds of each holds of the one in the middle
at_middle : {X : Type 0} (P : X → Type 0) (xs : List X) (x : X) (ys : List X) → All P (xs ++ x ∷ ys) → P x
at_middle P [] x ys h = All-head P x ys h
at_middle P (y ∷ xs) x ys h = at_middle P xs x ys (All-tail P y (xs ++ x ∷ ys) h)

module _ {S : Type 0} (told : S → Told) (cat : Defined) where
  abbrev Tells : Lane S → Type 0
  Tells lane = (reads : List TableDef → Reading) × ((told lane.res).reads ≡ Some reads)

  reads_once : (lane : Lane S) (a b : Option DeployFault) → Tells lane → ReadsAs told cat a lane → ReadsAs told cat b lane → a ≡ b
  reads_once lane a b t p q = read_once lane.name (tables_for cat lane.name) a b (told lane.res).reads t.0 t.1 p q

  -- a lane has no fault and a fault
  not_bad : (lane : Lane S) (f : DeployFault) → Tells lane → ReadsAs told cat None lane → ReadsAs told cat (Some f) lane → ⊥
  not_bad lane f t p q = (let h : None ≡ Some f = reads_once lane None (Some f) t p q in cc)

  -- the first bad lane is one
  one_first : (f g : DeployFault) (xs ys : List (Lane S)) (x y : Lane S) (us vs : List (Lane S)) → xs ++ x ∷ us ≡ ys ++ y ∷ vs → All Tells (xs ++ x ∷ us)
      → All (ReadsAs told cat None) xs → All (ReadsAs told cat None) ys → ReadsAs told cat (Some f) x → ReadsAs told cat (Some g) y → f ≡ g
  one_first f g [] [] x y us vs e t s r p q =
      let q' : ReadsAs told cat (Some g) x = subst (ReadsAs told cat (Some g)) (sym (head_same x y us vs e)) q in
      let h : Some f ≡ Some g = reads_once x (Some f) (Some g) (All-head Tells x us t) p q' in
      cc
  one_first f g [] (b ∷ ys) x y us vs e t s r p q =
      let sound : ReadsAs told cat None x = subst (ReadsAs told cat None) (sym (head_same x b us (ys ++ y ∷ vs) e)) (All-head (ReadsAs told cat None) b ys r) in
      absurd (not_bad x f (All-head Tells x us t) sound p)
  one_first f g (a ∷ xs) [] x y us vs e t s r p q =
      let q' : ReadsAs told cat (Some g) a = subst (ReadsAs told cat (Some g)) (sym (head_same a y (xs ++ x ∷ us) vs e)) q in
      absurd (not_bad a g (All-head Tells a (xs ++ x ∷ us) t) (All-head (ReadsAs told cat None) a xs s) q')
  one_first f g (a ∷ xs) (b ∷ ys) x y us vs e t s r p q =
      one_first f g xs ys x y us vs (tail_same a b (xs ++ x ∷ us) (ys ++ y ∷ vs) e) (All-tail Tells a (xs ++ x ∷ us) t)
      (All-tail (ReadsAs told cat None) a xs s) (All-tail (ReadsAs told cat None) b ys r) p q

  one_first_bad : (lanes : List (Lane S)) (f g : DeployFault) → TellsContents told lanes → IsFirst (ReadsAs told cat) lanes f → IsFirst (ReadsAs told cat) lanes g → f ≡ g
  one_first_bad lanes f g t p q =
      one_first f g p.before q.before p.lane q.lane p.after q.after (sym p.split ∙ q.split) (subst (All Tells) p.split t) p.sound q.sound p.has q.has

  -- where all are sound none is bad
  none_bad : (lanes : List (Lane S)) (f : DeployFault) → TellsContents told lanes → All (ReadsAs told cat None) lanes → IsFirst (ReadsAs told cat) lanes f → ⊥
  none_bad lanes f t s p =
      not_bad p.lane f (at_middle Tells p.before p.lane p.after (subst (All Tells) p.split t))
      (at_middle (ReadsAs told cat None) p.before p.lane p.after (subst (All (ReadsAs told cat None)) p.split s)) p.has

module _ {S : Type 0} (told : S → Told) (parts : Parts S) where
  first_bad_in : (c d : Defined) (f : DeployFault) → c ≡ d → IsFirst (ReadsAs told c) parts.lanes f → IsFirst (ReadsAs told d) parts.lanes f
  first_bad_in c d f e p = subst (λ (c : Defined). IsFirst (ReadsAs told c) parts.lanes f) e p

  -- what opens isn't refused
  pub not_refused : (cat : Defined) (f : DeployFault) → Deploys told parts.ddl parts.lanes cat → All (ReadsAs told cat None) parts.lanes → Refused told parts f → ⊥
  not_refused cat f d s (inl r) = has_items told parts.ddl parts.lanes cat f d r
  not_refused cat f d s (inr (inl r)) = has_deployment told parts.ddl parts.lanes cat f d r
  not_refused cat f d s (inr (inr r)) =
      none_bad told cat parts.lanes f r.1 s (first_bad_in r.0.cat cat f (one_catalog told parts.ddl parts.lanes r.0.cat cat r.0.deploys d) r.0.first)

  -- a refusal of parts that tell their contents
  pub told_refusal : (f : DeployFault) → TellsContents told parts.lanes → IsStartRefusal told parts.ddl parts.lanes f → Refused told parts f
  told_refusal f t (inl r) = inl r
  told_refusal f t (inr (inl r)) = inr (inl r)
  told_refusal f t (inr (inr r)) = inr (inr (r, t))

  bad_deployment : (f g : DeployFault) → NoDeployment told parts.ddl parts.lanes f → NoItems parts.ddl g → ⊥
  bad_deployment f g p q = not_both parts.ddl p.items q.at p.reads q.refused

  -- there is one refusal
  pub one_refusal : (f g : DeployFault) → Refused told parts f → IsStartRefusal told parts.ddl parts.lanes g → f ≡ g
  one_refusal f g (inl p) (inl q) = p.fault ∙ ap deploy.Syntax (one_place parts.ddl p.at q.at p.refused q.refused) ∙ sym q.fault
  one_refusal f g (inl p) (inr (inl q)) = absurd (bad_deployment g f q p)
  one_refusal f g (inl p) (inr (inr q)) = absurd (has_items told parts.ddl parts.lanes q.cat f q.deploys p)
  one_refusal f g (inr (inl p)) (inl q) = absurd (bad_deployment f g p q)
  one_refusal f g (inr (inl p)) (inr (inl q)) = one_no_deployment told parts.ddl parts.lanes f g p q
  one_refusal f g (inr (inl p)) (inr (inr q)) = absurd (has_deployment told parts.ddl parts.lanes q.cat f q.deploys p)
  one_refusal f g (inr (inr p)) (inl q) = absurd (has_items told parts.ddl parts.lanes p.0.cat g p.0.deploys q)
  one_refusal f g (inr (inr p)) (inr (inl q)) = absurd (has_deployment told parts.ddl parts.lanes p.0.cat g p.0.deploys q)
  one_refusal f g (inr (inr p)) (inr (inr q)) =
      one_first_bad told q.cat parts.lanes f g p.1 (first_bad_in p.0.cat q.cat f (one_catalog told parts.ddl parts.lanes p.0.cat q.cat p.0.deploys q.deploys) p.0.first) q.first
