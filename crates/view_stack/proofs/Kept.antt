-- What the expansion of a relation keeps: its rows, its nodes and its depth; and no view is left.
use Rattle.std.proofs.Common.{◌≡◌, ◌∙◌, true, ◌&&◌, List, [], ◌∷◌, ◌++◌, ℕ, zero, suc, ◌<◌, ap, sym, subst, refl, arith, length, append_assoc, append-nil, slice_get, slice_index_or, nat_lt, ◌==◌}
use Rattle.std.proofs.lemmas.Bool.{ltb-true, eqb-true}
use Rattle.std.specs.List.{AllByRecursion}
use Rattle.std.specs.Bool.{⊤}
use Rattle.std.specs.Cmp.Derive.{both_true}
use Rattle.vdb_model.specs.declared.catalog.ViewDef.{ViewDef}
use Rattle.vdb_model.specs.declared.rel.Rel.{Rel}
use Rattle.vdb_model.specs.declared.rel.Rel.TheVariants.{View}
use Rattle.vdb_model.specs.declared.bag.Bag.{Bag}
use Rattle.vdb_model.specs.Rows.{Cells}
use Rattle.vdb_model.specs.Relations.{no_bag, bag_of, bags_of, views_after}
use Rattle.vdb_model.specs.Defined.{Defined}
use Rattle.vdb_model.specs.World.{view_rels}
use Rattle.vdb_model.specs.Sizes.{kept_nodes, kept_depth, nodes_of, depth_of}
use Rattle.vdb_model.specs.Closed.{all_true, reads_no_variable}
use Rattle.vdb_model.specs.Stacked.{names_first, has_no_view, stands_on, are_stacked_on, are_stacked}
use Rattle.vdb_model.specs.Expanded.{expanded_over, expanded_after, expanded}
use Rattle.vdb_model.proofs.RelByKinds.{rel_by_kinds}
use Rattle.vdb_model.proofs.Bags.{bag-One, bag-Table, bag-View, bag-Where, bag-Select, bag-Join, bag-Group, bag-Distinct, bag-Union}
use Rattle.view_stack.specs.Expansion.{HasRowsOf}
use Rattle.view_stack.specs.Parts.{nodes_each, depth_each, named_each, expanded_each}
use Rattle.view_stack.proofs.SizeByKinds.{nodes-One, nodes-Table, nodes-View, nodes-Where, nodes-Select, nodes-Join, nodes-Group, nodes-Distinct, nodes-Union, depth-One, depth-Table, depth-View, depth-Where, depth-Select, depth-Join, depth-Group, depth-Distinct, depth-Union}
use Rattle.view_stack.proofs.NamedByKinds.{named-One, named-Table, named-View, named-Where, named-Select, named-Join, named-Group, named-Distinct, named-Union}
use Rattle.view_stack.proofs.TreeByKinds.{tree-One, tree-Table, tree-View, tree-Where, tree-Select, tree-Join, tree-Group, tree-Distinct, tree-Union}
use Rattle.view_stack.proofs.NoVariables.{both, same_bag}

module _ (tables : List Bag) where
  -- a tree without views that stands for a view of that bag and size
  pub record Stands (tree : Rel) (bag : Bag) (nodes depth : ℕ) : Type 0 where
    pub none : names_first 0 tree ≡ true
    pub rows : (views : List Bag) (vars : Cells) → bag_of tables views vars tree ≡ bag
    pub many : nodes_of [] tree ≡ nodes
    pub deep : depth_of [] tree ≡ depth

  -- each tree stands for its view
  abbrev pub AllStand : List Rel → List Bag → List ViewDef → Type 0
  AllStand [] [] [] = ⊤
  AllStand (tree ∷ trees) (bag ∷ bags) (view ∷ views) = Stands tree bag view.nodes view.depth × AllStand trees bags views
  AllStand trees bags views = ⊥

  stands_at : (trees : List Rel) (bags : List Bag) (views : List ViewDef) → AllStand trees bags views → (v : ℕ) (d : Rel) → v < length views
      → Stands (slice_index_or trees v d) (slice_index_or bags v no_bag) (kept_nodes (slice_get views v)) (kept_depth (slice_get views v))
  stands_at (tree ∷ trees) (bag ∷ bags) (view ∷ views) all zero d within = all.0
  stands_at (tree ∷ trees) (bag ∷ bags) (view ∷ views) all (suc v) d within = stands_at trees bags views all.1 v d (omega arith)
  stands_at [] [] [] all v d within = absurd (omega arith)
  stands_at [] [] (view ∷ views) all v d within = absurd all
  stands_at [] (bag ∷ bags) views all v d within = absurd all
  stands_at (tree ∷ trees) [] views all v d within = absurd all
  stands_at (tree ∷ trees) (bag ∷ bags) [] all v d within = absurd all

  one_more : (trees : List Rel) (bags : List Bag) (views : List ViewDef) → AllStand trees bags views → (tree : Rel) (bag : Bag) (view : ViewDef) → Stands tree bag view.nodes view.depth
      → AllStand (trees ++ tree ∷ []) (bags ++ bag ∷ []) (views ++ view ∷ [])
  one_more [] [] [] all tree bag view is = (is, tt)
  one_more (t ∷ trees) (b ∷ bags) (v ∷ views) all tree bag view is = (all.0, one_more trees bags views all.1 tree bag view is)
  one_more [] [] (v ∷ views) all tree bag view is = absurd all
  one_more [] (b ∷ bags) views all tree bag view is = absurd all
  one_more (t ∷ trees) [] views all tree bag view is = absurd all
  one_more (t ∷ trees) (b ∷ bags) [] all tree bag view is = absurd all

  module _ (trees : List Rel) (bags : List Bag) (views : List ViewDef) (all : AllStand trees bags views) where
    abbrev over : Rel → Rel
    over r = expanded_over trees r

    abbrev Named : Rel → Type 0
    Named r = names_first (length views) r ≡ true

    abbrev n : ℕ
    n = length views

    view_at : (v : ℕ) → Named (View v) → Stands (slice_index_or trees v (View v)) (slice_index_or bags v no_bag) (kept_nodes (slice_get views v)) (kept_depth (slice_get views v))
    view_at v named =
        let within : nat_lt v (length views) ≡ true = sym (named-View n v) ∙ named in
        stands_at trees bags views all v (View v) (omega (arith, ltb-true))

    -- no view is left
    abbrev NoView : Rel → Type 0
    NoView r = Named r → names_first 0 (over r) ≡ true

    parts_none : (rs : List Rel) → AllByRecursion NoView rs → all_true (named_each n rs) ≡ true → all_true (named_each 0 (expanded_each trees rs)) ≡ true
    parts_none [] is named = refl
    parts_none (r ∷ rs) is named =
        let c = both (names_first n r) (all_true (named_each n rs)) named in
        both_true (is.0 c.0) (parts_none rs is.1 c.1)

    pub keeps_none : (r : Rel) → NoView r
    keeps_none = rel_by_kinds NoView (record {
      onOne = λ named. cc (tree-One trees, named-One 0);
      onTable = λ t named. cc (tree-Table trees t, named-Table 0 t);
      onView = λ v named. cc (tree-View trees v, (view_at v named).none);
      onWhere = λ r e is named. cc (tree-Where trees r e, named-Where 0 (over r) e, is (sym (named-Where n r e) ∙ named));
      onSelect = λ r es is named. cc (tree-Select trees r es, named-Select 0 (over r) es, is (sym (named-Select n r es) ∙ named));
      onJoin = λ kind l r on is too named. let c = both (names_first n l) (names_first n r) (sym (named-Join n kind l r on) ∙ named) in ap (names_first 0) (tree-Join trees kind l r on) ∙ named-Join 0 kind (over l) (over r) on ∙ both_true (is c.0) (too c.1);
      onGroup = λ r keys aggs is named. cc (tree-Group trees r keys aggs, named-Group 0 (over r) keys aggs, is (sym (named-Group n r keys aggs) ∙ named));
      onDistinct = λ r is named. cc (tree-Distinct trees r, named-Distinct 0 (over r), is (sym (named-Distinct n r) ∙ named));
      onUnion = λ rs is named. cc (tree-Union trees rs, named-Union 0 (expanded_each trees rs), parts_none rs is (sym (named-Union n rs) ∙ named));
    })

    -- the rows, whatever views and variables there are
    abbrev SameRows : Rel → Type 0
    SameRows r = Named r → (ws : List Bag) (vars : Cells) → bag_of tables ws vars (over r) ≡ bag_of tables bags vars r

    parts_rows : (rs : List Rel) → AllByRecursion SameRows rs → all_true (named_each n rs) ≡ true → (ws : List Bag) (vars : Cells) → bags_of tables ws vars (expanded_each trees rs) ≡ bags_of tables bags vars rs
    parts_rows [] is named ws vars = refl
    parts_rows (r ∷ rs) is named ws vars =
        let c = both (names_first n r) (all_true (named_each n rs)) named in
        cc (is.0 c.0 ws vars, parts_rows rs is.1 c.1 ws vars)

    pub keeps_rows : (r : Rel) → SameRows r
    keeps_rows = rel_by_kinds SameRows (record {
      onOne = λ named ws vars. cc (tree-One trees, bag-One tables ws vars, bag-One tables bags vars);
      onTable = λ t named ws vars. cc (tree-Table trees t, bag-Table tables ws vars t, bag-Table tables bags vars t);
      onView = λ v named ws vars. cc (tree-View trees v, bag-View tables bags vars v, (view_at v named).rows ws vars);
      onWhere = λ r e is named ws vars. cc (tree-Where trees r e, bag-Where tables ws vars (over r) e, bag-Where tables bags vars r e, is (sym (named-Where n r e) ∙ named) ws vars);
      onSelect = λ r es is named ws vars. cc (tree-Select trees r es, bag-Select tables ws vars (over r) es, bag-Select tables bags vars r es, is (sym (named-Select n r es) ∙ named) ws vars);
      onJoin = λ kind l r on is too named ws vars. let c = both (names_first n l) (names_first n r) (sym (named-Join n kind l r on) ∙ named) in cc (tree-Join trees kind l r on, bag-Join tables ws vars kind (over l) (over r) on, bag-Join tables bags vars kind l r on, is c.0 ws vars, too c.1 ws vars);
      onGroup = λ r keys aggs is named ws vars. cc (tree-Group trees r keys aggs, bag-Group tables ws vars (over r) keys aggs, bag-Group tables bags vars r keys aggs, is (sym (named-Group n r keys aggs) ∙ named) ws vars);
      onDistinct = λ r is named ws vars. cc (tree-Distinct trees r, bag-Distinct tables ws vars (over r), bag-Distinct tables bags vars r, is (sym (named-Distinct n r) ∙ named) ws vars);
      onUnion = λ rs is named ws vars. cc (tree-Union trees rs, bag-Union tables ws vars (expanded_each trees rs), bag-Union tables bags vars rs, parts_rows rs is (sym (named-Union n rs) ∙ named) ws vars);
    })

    -- the nodes
    abbrev SameNodes : Rel → Type 0
    SameNodes r = Named r → nodes_of [] (over r) ≡ nodes_of views r

    parts_nodes : (rs : List Rel) → AllByRecursion SameNodes rs → all_true (named_each n rs) ≡ true → nodes_each [] (expanded_each trees rs) ≡ nodes_each views rs
    parts_nodes [] is named = refl
    parts_nodes (r ∷ rs) is named =
        let c = both (names_first n r) (all_true (named_each n rs)) named in
        cc (is.0 c.0, parts_nodes rs is.1 c.1)

    pub keeps_nodes : (r : Rel) → SameNodes r
    keeps_nodes = rel_by_kinds SameNodes (record {
      onOne = λ named. cc (tree-One trees, nodes-One [], nodes-One views);
      onTable = λ t named. cc (tree-Table trees t, nodes-Table [] t, nodes-Table views t);
      onView = λ v named. cc (tree-View trees v, nodes-View views v, (view_at v named).many);
      onWhere = λ r e is named. cc (tree-Where trees r e, nodes-Where [] (over r) e, nodes-Where views r e, is (sym (named-Where n r e) ∙ named));
      onSelect = λ r es is named. cc (tree-Select trees r es, nodes-Select [] (over r) es, nodes-Select views r es, is (sym (named-Select n r es) ∙ named));
      onJoin = λ kind l r on is too named. let c = both (names_first n l) (names_first n r) (sym (named-Join n kind l r on) ∙ named) in cc (tree-Join trees kind l r on, nodes-Join [] kind (over l) (over r) on, nodes-Join views kind l r on, is c.0, too c.1);
      onGroup = λ r keys aggs is named. cc (tree-Group trees r keys aggs, nodes-Group [] (over r) keys aggs, nodes-Group views r keys aggs, is (sym (named-Group n r keys aggs) ∙ named));
      onDistinct = λ r is named. cc (tree-Distinct trees r, nodes-Distinct [] (over r), nodes-Distinct views r, is (sym (named-Distinct n r) ∙ named));
      onUnion = λ rs is named. cc (tree-Union trees rs, nodes-Union [] (expanded_each trees rs), nodes-Union views rs, parts_nodes rs is (sym (named-Union n rs) ∙ named));
    })

    -- the depth
    abbrev SameDepth : Rel → Type 0
    SameDepth r = Named r → depth_of [] (over r) ≡ depth_of views r

    parts_depth : (rs : List Rel) → AllByRecursion SameDepth rs → all_true (named_each n rs) ≡ true → depth_each [] (expanded_each trees rs) ≡ depth_each views rs
    parts_depth [] is named = refl
    parts_depth (r ∷ rs) is named =
        let c = both (names_first n r) (all_true (named_each n rs)) named in
        cc (is.0 c.0, parts_depth rs is.1 c.1)

    pub keeps_depth : (r : Rel) → SameDepth r
    keeps_depth = rel_by_kinds SameDepth (record {
      onOne = λ named. cc (tree-One trees, depth-One [], depth-One views);
      onTable = λ t named. cc (tree-Table trees t, depth-Table [] t, depth-Table views t);
      onView = λ v named. cc (tree-View trees v, depth-View views v, (view_at v named).deep);
      onWhere = λ r e is named. cc (tree-Where trees r e, depth-Where [] (over r) e, depth-Where views r e, is (sym (named-Where n r e) ∙ named));
      onSelect = λ r es is named. cc (tree-Select trees r es, depth-Select [] (over r) es, depth-Select views r es, is (sym (named-Select n r es) ∙ named));
      onJoin = λ kind l r on is too named. let c = both (names_first n l) (names_first n r) (sym (named-Join n kind l r on) ∙ named) in cc (tree-Join trees kind l r on, depth-Join [] kind (over l) (over r) on, depth-Join views kind l r on, is c.0, too c.1);
      onGroup = λ r keys aggs is named. cc (tree-Group trees r keys aggs, depth-Group [] (over r) keys aggs, depth-Group views r keys aggs, is (sym (named-Group n r keys aggs) ∙ named));
      onDistinct = λ r is named. cc (tree-Distinct trees r, depth-Distinct [] (over r), depth-Distinct views r, is (sym (named-Distinct n r) ∙ named));
      onUnion = λ rs is named. cc (tree-Union trees rs, depth-Union [] (expanded_each trees rs), depth-Union views rs, parts_depth rs is (sym (named-Union n rs) ∙ named));
    })

  -- a view over views that trees stand for has a tree too
  stands_next : (trees : List Rel) (bags : List Bag) (views : List ViewDef) → AllStand trees bags views → (view : ViewDef) → stands_on views view ≡ true
      → Stands (expanded_over trees view.rel) (bag_of tables bags [] view.rel) view.nodes view.depth
  stands_next trees bags views all view is =
      let a = both (names_first (length views) view.rel && reads_no_variable view.rel && view.nodes == nodes_of views view.rel) (view.depth == depth_of views view.rel) is in
      let b = both (names_first (length views) view.rel && reads_no_variable view.rel) (view.nodes == nodes_of views view.rel) a.0 in
      let c = both (names_first (length views) view.rel) (reads_no_variable view.rel) b.0 in
      let named = c.0 in
      record {
        none = keeps_none trees bags views all view.rel named;
        rows = λ ws vars. keeps_rows trees bags views all view.rel named ws vars ∙ same_bag vars [] tables bags view.rel c.1;
        many = keeps_nodes trees bags views all view.rel named ∙ sym (eqb-true view.nodes (nodes_of views view.rel) b.1);
        deep = keeps_depth trees bags views all view.rel named ∙ sym (eqb-true view.depth (depth_of views view.rel) a.1);
      }

  all_stand : (trees : List Rel) (bags : List Bag) (views more : List ViewDef) → AllStand trees bags views → are_stacked_on views more ≡ true
      → AllStand (expanded_after trees (view_rels more)) (views_after tables [] bags (view_rels more)) (views ++ more)
  all_stand trees bags views [] all is = subst (AllStand trees bags) (sym (append-nil views)) all
  all_stand trees bags views (view ∷ more) all is =
      let c = both (stands_on views view) (are_stacked_on (views ++ view ∷ []) more) is in
      let next = one_more trees bags views all (expanded_over trees view.rel) (bag_of tables bags [] view.rel) view (stands_next trees bags views all view c.0) in
      subst (AllStand (expanded_after trees (view_rels (view ∷ more))) (views_after tables [] bags (view_rels (view ∷ more)))) (append_assoc views (view ∷ []) more)
      (all_stand (trees ++ expanded_over trees view.rel ∷ []) (bags ++ bag_of tables bags [] view.rel ∷ []) (views ++ view ∷ []) more next c.1)

  -- each view of a stack has a tree
  pub stack : (views : List ViewDef) → are_stacked views ≡ true → AllStand (expanded_after [] (view_rels views)) (views_after tables [] [] (view_rels views)) views
  stack views is = all_stand [] [] [] views tt is

-- all that an expansion keeps
pub record Keeps (cat : Defined) (rel made : Rel) : Type 0 where
  pub none : has_no_view made ≡ true
  pub rows : HasRowsOf cat rel made
  pub nodes : nodes_of [] made ≡ nodes_of cat.views rel
  pub depth : depth_of [] made ≡ depth_of cat.views rel

pub keeps : (cat : Defined) (rel made : Rel) → are_stacked cat.views ≡ true → names_first (length cat.views) rel ≡ true → made ≡ expanded cat rel → Keeps cat rel made
keeps cat rel made stacked named is =
    let trees = expanded_after [] (view_rels cat.views) in
    let bags = λ (tables : List Bag). views_after tables [] [] (view_rels cat.views) in
    subst (Keeps cat rel) (sym is) (record {
      none = keeps_none [] trees (bags []) cat.views (stack [] cat.views stacked) rel named;
      rows = λ tables ws vars. keeps_rows tables trees (bags tables) cat.views (stack tables cat.views stacked) rel named ws vars;
      nodes = keeps_nodes [] trees (bags []) cat.views (stack [] cat.views stacked) rel named;
      depth = keeps_depth [] trees (bags []) cat.views (stack [] cat.views stacked) rel named;
    })
